use Rattle.std.proofs.Common.{arith}
use Rattle.family.specs.Order.{clamp}
use Rattle.family.proofs.Change.{first_change_alike}
use Rattle.crossing.proofs.Lines.{order_by_gap}
use Rattle.vans.specs.Distance.{distance_at}
use Rattle.vans.proofs.exchange.VanExchangingCard.next_exchange.Goals as goal

pub returns : goal.returns
returns c =
    first_change_alike _ _ (clamp c.args.t) (clamp c.args.end) c.next_crossing.result
    (λ u _ upto. order_by_gap distance_at c.args.self.now c.args.other.now u _ (omega arith) (c.gap_to.ensures u))
    c.next_crossing.ensures
