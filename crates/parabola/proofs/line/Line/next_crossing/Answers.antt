use Rattle.std.proofs.Common.{arith}
use borrow.Author.Differences.{ints}
use Rattle.parabola.proofs.Bands.{goes_on}
use Rattle.parabola.proofs.line.Line.next_crossing.Goals as goal

pub returns : goal.returns
returns c =
    let first = rw (c.into.ensures, c.into-2.ensures) at c.next_crossing.ensures in
    goes_on c.args.self _ _ c.args.span.from.number c.args.span.end.number c.next_crossing.result (omega (arith, ints)) (omega (arith, ints)) first
