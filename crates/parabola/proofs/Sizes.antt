-- How large half the slope and the discriminant are, and its two products.
use Rattle.std.proofs.Common.{◌≡◌, ℕ, ◌≤◌, ◌-ℤ◌, ◌*ℤ◌, nat_abs, arith, w64, SFits, to_z, of_z}
use borrow.Author.Differences.{ints}
use Rattle.std.proofs.lemmas.Int.{to_z-of_z}
use Rattle.parabola.specs.declared.curve.Parabola.{Parabola}
use Rattle.parabola.specs.Slope.{half_slope_of, discriminant_of}
use Rattle.crossing.proofs.Lines.{line_size}
use Rattle.crossing.proofs.Ring.{times_size}

-- half the slope up to the last time
pub slope_size : (p : Parabola) (t : ℕ) → t ≤ 1000000 → nat_abs (half_slope_of p t) ≤ 4001000000000
slope_size p t upto = line_size p.tilt p.bend t 1000000000 4000000 1000000 p.within.1 p.within.2 upto

module _ (p : Parabola) where
  square_size : nat_abs (p.tilt *ℤ p.tilt) ≤ 1000000000000000000
  square_size = times_size p.tilt p.tilt 1000000000 1000000000 p.within.1 p.within.1

  product_size : nat_abs (p.bend *ℤ p.start) ≤ 400000000000000000
  product_size = times_size p.bend p.start 4000000 100000000000 p.within.2 p.within.0

  pub discriminant_size : nat_abs (discriminant_of p) ≤ 1400000000000000000
  discriminant_size = omega (arith, ints, square_size, product_size)

  pub discriminant_kept : to_z w64 (of_z w64 (to_z w64 (of_z w64 (to_z w64 (of_z w64 p.tilt) *ℤ to_z w64 (of_z w64 p.tilt))) -ℤ to_z w64 (of_z w64 (to_z w64 (of_z w64 p.bend) *ℤ to_z w64 (of_z w64 p.start))))) ≡ discriminant_of p
  discriminant_kept =
      let start : SFits w64 p.start = omega (arith, ints, p.within) in
      let tilt : SFits w64 p.tilt = omega (arith, ints, p.within) in
      let bend : SFits w64 p.bend = omega (arith, ints, p.within) in
      let square : SFits w64 (p.tilt *ℤ p.tilt) = omega (arith, ints, square_size) in
      let product : SFits w64 (p.bend *ℤ p.start) = omega (arith, ints, product_size) in
      let whole : SFits w64 (discriminant_of p) = omega (arith, ints, discriminant_size) in simp to_z-of_z
