use Rattle.std.proofs.Common.{arith}
use borrow.Author.Differences.{ints}
use Rattle.hoppers.specs.Fills.{exchange_told}
use Rattle.hoppers.proofs.exchange.HopperExchangingCard.next_exchange.Goals as goal

pub returns : goal.returns
returns c =
    exchange_told c.args.self.now c.args.other.now _ _ c.args.t c.args.end c.into.result c.into-2.result c.next_crossing.result
    (omega arith) (omega arith) (rw c.into.ensures (omega (arith, ints))) (omega (arith, ints)) c.next_crossing.ensures
