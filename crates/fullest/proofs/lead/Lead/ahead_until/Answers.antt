use Rattle.std.proofs.Common.{◌≡◌, Some, ◌-◌, rules, arith}
use Rattle.std.specs.Option.{option_map_or}
use Rattle.family.specs.Order.{clamp}
use Rattle.fullest.proofs.Beaten.{ahead_lasts, leads}
use Rattle.fullest.proofs.lead.Lead.ahead_until.Goals as goal

pub returns : goal.returns
returns g c =
    let l = c.args.self.now in
    let before = g.F.Family.before l.family.now in
    let cards = g.F.CardSlots.slots l.family.now in
    let ordered = g.met.F.Family.ordered l.family.now in
    let found : c.map_or.result ≡ option_map_or (λ u. u - 1) c.next_exchange.result 1000000 = search rules in
    let known : clamp c.from.result ≡ l.since.number = omega (arith, l.since.within, c.from.ensures) in
    let leader = leads before ordered cards l.since.number (Some l.slot) l.leads in
    rw found (ahead_lasts before ordered cards l.slot c.args.k leader.0.2 c.ranges.k.fits l.since.number c.next_exchange.result l.since.within (leader.1 c.args.k)
    (rw (known, c.min-lower.ensures, c.max-higher.ensures) at c.next_exchange.ensures))
