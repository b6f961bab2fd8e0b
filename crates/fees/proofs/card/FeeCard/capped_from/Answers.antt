use Rattle.std.proofs.Common.{arith}
use borrow.Author.Differences.{ints}
use Rattle.fees.specs.Charges.{first_capped}
use Rattle.fees.proofs.card.FeeCard.capped_from.Goals as goal

pub returns : goal.returns
returns c =
    first_capped c.args.self.now _ _ c.next_crossing.result (omega (arith, ints)) (omega (arith, ints)) (omega (arith, ints))
    c.next_crossing.ensures c.unwrap_or.result c.unwrap_or.ensures
