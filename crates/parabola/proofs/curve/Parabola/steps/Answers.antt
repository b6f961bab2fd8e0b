use Rattle.std.proofs.Common.{◌≡◌, pos, ◌+ℤ◌, ◌*ℤ◌, arith, w64, to_z, of_z}
use borrow.Author.Differences.{ints}
use Rattle.parabola.proofs.Turns.{step_is}
use Rattle.parabola.proofs.curve.Parabola.steps.Goals as goal

pub returns : goal.returns
returns c t =
    let p = c.args.self.now in
    let start : to_z w64 (of_z w64 (to_z w64 (of_z w64 p.bend) +ℤ to_z w64 (of_z w64 (pos 2 *ℤ to_z w64 (of_z w64 p.tilt))))) ≡ p.bend +ℤ (p.tilt +ℤ p.tilt) =
    omega (arith, ints, p.within) in
    let step : to_z w64 (of_z w64 (pos 2 *ℤ to_z w64 (of_z w64 p.bend))) ≡ p.bend +ℤ p.bend = omega (arith, ints, p.within) in
    rw (start, step) (step_is p.start p.tilt p.bend t)
