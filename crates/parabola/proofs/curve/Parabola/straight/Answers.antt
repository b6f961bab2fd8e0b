use Rattle.std.proofs.Common.{◌≡◌, pos, ◌+ℤ◌, ◌*ℤ◌, arith, w64, to_z, of_z}
use borrow.Author.Differences.{ints}
use Rattle.parabola.proofs.curve.Parabola.straight.Goals as goal

pub returns : goal.returns
returns c t =
    let p = c.args.self.now in
    let start : to_z w64 (of_z w64 p.start) ≡ p.start = omega (arith, ints, p.within) in
    let step : to_z w64 (of_z w64 (pos 2 *ℤ to_z w64 (of_z w64 p.tilt))) ≡ p.tilt +ℤ p.tilt = omega (arith, ints, p.within) in
    rw (start, step, c.requires) (omega (arith, ints))
