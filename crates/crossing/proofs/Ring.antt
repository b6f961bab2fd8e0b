-- Laws of sums and products of whole numbers.
use Rattle.std.proofs.Common.{◌≡◌, ℕ, ◌*◌, ◌≤◌, ℤ, pos, ◌+ℤ◌, ◌-ℤ◌, ◌*ℤ◌, neg_ℤ, nat_abs, ap, arith}
use lib.IntN.{*ℤ_comm}
use borrow.Author.Differences.{ints, up, down, same_in, sum_is_lem, product_is}
use Rattle.std.proofs.lemmas.Nat.{mul-le}
use Rattle.std.proofs.lemmas.Int.{unsigned_abs-mul}

-- a product with a sum is a sum of products
pub times_sum : (a b c : ℤ) → a *ℤ (b +ℤ c) ≡ a *ℤ b +ℤ a *ℤ c
times_sum a b c = let sum = sum_is_lem b c in omega (arith, ints, ap (λ n. up a * n) sum, ap (λ n. down a * n) sum)

pub sum_times : (a b c : ℤ) → (a +ℤ b) *ℤ c ≡ a *ℤ c +ℤ b *ℤ c
sum_times a b c = let sum = sum_is_lem a b in omega (arith, ints, ap (λ n. n * up c) sum, ap (λ n. n * down c) sum)

-- a product with the opposite is the opposite of the product
pub neg_times : (a b : ℤ) → neg_ℤ a *ℤ b ≡ neg_ℤ (a *ℤ b)
neg_times a b = grind (arith, ints)

pub minus_times : (a b c : ℤ) → (a -ℤ b) *ℤ c ≡ a *ℤ c -ℤ b *ℤ c
minus_times a b c = omega (arith, ints, sum_times a (neg_ℤ b) c, neg_times b c)

-- products associate: each side is the same sum of products of three naturals
pub times_assoc : (a b c : ℤ) → (a *ℤ b) *ℤ c ≡ a *ℤ (b *ℤ c)
times_assoc a b c =
    let first = product_is a b in
    let last = product_is b c in
    let left = product_is (a *ℤ b) c in
    let right = product_is a (b *ℤ c) in
    same_in _ _ (rw (left.0, left.1, right.0, right.1, first.0, first.1, last.0, last.1) (omega arith))

-- a square of a sum
pub square_of_sum : (a b : ℤ) → (a +ℤ b) *ℤ (a +ℤ b) ≡ a *ℤ a +ℤ (a *ℤ b +ℤ a *ℤ b) +ℤ b *ℤ b
square_of_sum a b = omega (arith, ints, sum_times a b (a +ℤ b), times_sum a a b, times_sum b a b)

-- the square of a number that moves by the same step at each time
pub square_of_line : (p v : ℤ) (t : ℕ) → (p +ℤ v *ℤ pos t) *ℤ (p +ℤ v *ℤ pos t) ≡ p *ℤ p +ℤ (p *ℤ v +ℤ p *ℤ v) *ℤ pos t +ℤ (v *ℤ v) *ℤ pos (t * t)
square_of_line p v t =
    let whole = square_of_sum p (v *ℤ pos t) in
    let once = times_assoc p v (pos t) in
    let twice = sum_times (p *ℤ v) (p *ℤ v) (pos t) in
    let out = times_assoc v (pos t) (v *ℤ pos t) in
    let turned = *ℤ_comm (pos t) (v *ℤ pos t) in
    let inner = times_assoc v (pos t) (pos t) in
    let back = times_assoc v v (pos (t * t)) in cc

-- a product is no larger than the product of the bounds
pub times_size : (a b : ℤ) (m n : ℕ) → nat_abs a ≤ m → nat_abs b ≤ n → nat_abs (a *ℤ b) ≤ m * n
times_size a b m n f g = rw unsigned_abs-mul (mul-le (nat_abs a) (nat_abs b) m n f g)
