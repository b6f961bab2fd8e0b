use Rattle.std.proofs.Common.{arith}
use borrow.Author.Differences.{ints}
use Rattle.parabola.proofs.Sizes.{discriminant_size}
use Rattle.parabola.proofs.Squares.{reach_upward, reach_downward}
use Rattle.parabola.proofs.curve.Parabola.reach.Goals as goal

pub returns-then-self-gt0 : goal.returns-then-self-gt0
returns-then-self-gt0 c =
    let p = c.args.self.now in
    reach_upward p _ c.root.result (omega (arith, ints, p.within)) (omega (arith, ints, discriminant_size p)) c.root.ensures

pub returns : goal.returns
returns c =
    let p = c.args.self.now in
    reach_downward p _ c.root-2.result (omega (arith, ints, p.within)) (omega (arith, ints, discriminant_size p)) c.root-2.ensures
