use Rattle.std.proofs.Common.{subst, rules}
use Rattle.family.specs.Amounts.{OrderedBy}
use Rattle.agreement.proofs.OneAnswer.{one_answer}
use Rattle.agreement.proofs.exchange_both_ways.Goals as goal

pub returns-clause-agree : goal.returns-clause-agree
returns-clause-agree g c =
    let family = c.args.family.now in
    let other = c.args.adapted.now.0 in
    let before = g.F.Family.before family in
    λ alike.
    let ordered = subst (λ amount. OrderedBy before amount) (g.met.F.TurningFamily.amount_stays family other alike) (g.met.F.PricedFamily.orders family) in
    let once = one_answer before (g.F.Priced.amount other) (g.F.CardSlots.slots family) (g.F.CardSlots.slots other)
    c.args.i c.args.j c.args.t c.args.end c.next_exchange.result c.next_exchange-2.result in
    λ at_i at_j. search (rules, once, ordered)
