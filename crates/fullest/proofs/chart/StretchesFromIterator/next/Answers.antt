use Rattle.std.proofs.Common.{◌≡◌, Some, rules, refl, ap, arith}
use Rattle.family.specs.declared.time.Time.{Time}
use Rattle.fullest.proofs.Beaten.{leads}
use Rattle.fullest.proofs.Told.{has_amount}
use Rattle.fullest.proofs.chart.StretchesFromIterator.next.Goals as goal

pub returns-in_err-amount-clause-steps : goal.returns-in_err-amount-clause-steps
returns-in_err-amount-clause-steps g c =
    let l = c.in_ok-lead.lead in
    let leader = leads (g.F.Family.before l.family.now) (g.met.F.Family.ordered l.family.now) (g.F.CardSlots.slots l.family.now) l.since.number (Some l.slot) l.leads in
    has_amount (g.F.Priced.amount c.args.self.now.family.now) (g.F.CardSlots.slots c.args.self.now.family.now l.slot) c.args.self.now.first
    c.amount_at.result (rw c.in_ok-lead.ensures.0 at leader.0.2) c.amount_at.ensures c.in_err-amount.was

pub returns-clause-steps : goal.returns-clause-steps
returns-clause-steps g c =
    let l = c.in_ok-lead.lead in
    let at : l.since.number ≡ c.args.self.now.first = omega (arith, ap (λ (t : Time). t.number) c.in_ok-lead.ensures.1, c.from.ensures) in
    (refl, (refl, (rw (c.in_ok-lead.ensures.0, at) at c.end-last.ensures, search rules), refl))
