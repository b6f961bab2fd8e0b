-- The inner product as it is computed in 64 bits.
use Rattle.std.specs.Prelude.{◌≡◌, ℕ, ◌+◌, ◌*◌, ◌≤◌, ℤ, ◌+ℤ◌, ◌*ℤ◌, FitsSigned, unsigned_abs, refl}
use Rattle.std.proofs.Common.{◌∙◌, arith, to_z, of_z}
use Rattle.std.specs.Int.{w64}
use Rattle.std.proofs.lemmas.Int.{ints, to_z-of_z}
use Rattle.crossing.proofs.Ring.{times_size}
use Rattle.vans.specs.Distances.{inner_size}

-- a number as it is read again after it was kept
abbrev pub read : ℤ → ℤ
read z = to_z w64 (of_z w64 z)

module _ (a b : ℤ) (small_a : unsigned_abs a ≤ 1000100000) (small_b : unsigned_abs b ≤ 1000100000) where
  product_is : read a *ℤ read b ≡ a *ℤ b
  product_is =
      let first : read a ≡ a = omega (arith, ints, small_a) in
      let second : read b ≡ b = omega (arith, ints, small_b) in rw (first, second)

  product_size : unsigned_abs (a *ℤ b) ≤ 1000200010000000000
  product_size = omega (arith, times_size a b 1000100000 1000100000 small_a small_b)

  pub product_fits : FitsSigned w64 (read a *ℤ read b)
  product_fits = rw product_is (omega (arith, ints, product_size))

  product_read : read (read a *ℤ read b) ≡ a *ℤ b
  product_read = to_z-of_z w64 _ product_fits ∙ product_is

-- what was computed of a, b, c and d is the inner product of what these are
pub inner_told : (r a b c d ax ay bx by : ℤ) (m n : ℕ) → r ≡ a *ℤ c +ℤ b *ℤ d → a ≡ ax → b ≡ ay → c ≡ bx → d ≡ by
    → unsigned_abs ax ≤ m → unsigned_abs ay ≤ m → unsigned_abs bx ≤ n → unsigned_abs by ≤ n → m * n + m * n ≤ 9000000000000000000
    → (read r ≡ ax *ℤ bx +ℤ ay *ℤ by) × (unsigned_abs (read r) ≤ m * n + m * n)
inner_told r a b c d ax ay bx by m n e ea eb ec ed p q s t room =
    let size = inner_size ax ay bx by m n p q s t in
    let whole : r ≡ ax *ℤ bx +ℤ ay *ℤ by = cc in
    let is : read r ≡ ax *ℤ bx +ℤ ay *ℤ by = rw whole (omega (arith, ints, size)) in
    (is, rw is size)

module _ (ax ay bx by : ℤ) (small_ax : unsigned_abs ax ≤ 1000100000) (small_ay : unsigned_abs ay ≤ 1000100000) (small_bx : unsigned_abs bx ≤ 1000100000) (small_by : unsigned_abs by ≤ 1000100000) where
  sum_is : read (read ax *ℤ read bx) +ℤ read (read ay *ℤ read by) ≡ ax *ℤ bx +ℤ ay *ℤ by
  sum_is = rw (product_read ax bx small_ax small_bx, product_read ay by small_ay small_by)

  sum_small : FitsSigned w64 (ax *ℤ bx +ℤ ay *ℤ by)
  sum_small = omega (arith, ints, product_size ax bx small_ax small_bx, product_size ay by small_ay small_by)

  pub inner_fits : FitsSigned w64 (read (read ax *ℤ read bx) +ℤ read (read ay *ℤ read by))
  inner_fits = rw sum_is sum_small

  pub inner_kept : read (read (read ax *ℤ read bx) +ℤ read (read ay *ℤ read by)) ≡ ax *ℤ bx +ℤ ay *ℤ by
  inner_kept = (inner_told _ ax ay bx by ax ay bx by 1000100000 1000100000 sum_is refl refl refl refl small_ax small_ay small_bx small_by (omega arith)).0
