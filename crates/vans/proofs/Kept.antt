-- Vectors and inner products as they are computed in 64 bits.
use Rattle.std.proofs.Common.{◌≡◌, ℕ, ◌≤◌, ℤ, ◌+ℤ◌, ◌-ℤ◌, ◌*ℤ◌, nat_abs, arith, w64, SFits}
use borrow.Author.Differences.{ints}
use Rattle.crossing.specs.Line.{line}
use Rattle.vans.specs.Distances.{coordinate_size}
use Rattle.vans.specs.Inner.{read, inner_fits, inner_kept}
use Rattle.vans.specs.declared.vector.Vector.{Vector}

pub difference_kept : (x y z w : ℤ) → x ≡ z → y ≡ w → nat_abs z ≤ 4000000000000000000 → nat_abs w ≤ 4000000000000000000
    → read (read x -ℤ read y) ≡ z -ℤ w
difference_kept x y z w p q f g = rw (p, q) (omega (arith, ints))

-- a coordinate keeps within bounds
pub coordinate_kept : (r p v : ℤ) (t : ℕ) → r ≡ line p v t → nat_abs p ≤ 100000 → nat_abs v ≤ 1000 → t ≤ 1000000 → nat_abs (read r) ≤ 1000100000
coordinate_kept r p v t is near slow upto =
    let size = coordinate_size p v t near slow upto in
    omega (arith, ints, rw (← is) at size)

-- what is known of inner products, of two vectors
module _ (a b : Vector) where
  pub dot_fits : SFits w64 (read (read a.x *ℤ read b.x) +ℤ read (read a.y *ℤ read b.y))
  dot_fits = inner_fits a.x a.y b.x b.y a.near.0 a.near.1 b.near.0 b.near.1

  pub dot_kept : read (read (read a.x *ℤ read b.x) +ℤ read (read a.y *ℤ read b.y)) ≡ a.x *ℤ b.x +ℤ a.y *ℤ b.y
  dot_kept = inner_kept a.x a.y b.x b.y a.near.0 a.near.1 b.near.0 b.near.1
