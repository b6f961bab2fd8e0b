-- Laws of straight lines.
use Rattle.std.proofs.Common.{◌≡◌, ℕ, ◌+◌, ◌-◌, ◌*◌, ◌≤◌, ℤ, pos, negsuc, ◌+ℤ◌, ◌-ℤ◌, ◌*ℤ◌, nat_abs, ◌≤ℤ◌, sym, ap, ◌∙◌, inl, inr, arith}
use lib.Signed.{le_z}
use borrow.Author.Differences.{ints}
use Rattle.std.proofs.lemmas.Int.{by_lt_z}
use Rattle.family.specs.Order.{last_time, clamp, fact}
use Rattle.family.specs.Amounts.{Amount, by_amount, Steady}
use Rattle.crossing.specs.Line.{line}
use Rattle.crossing.proofs.Ring.{times_sum, minus_times, times_size}

-- a product by a number that is not negative has the sign of the other factor
pub times_rises : (k : ℤ) (n : ℕ) → pos 0 ≤ℤ k → pos 0 ≤ℤ (k *ℤ pos n)
times_rises (pos a) n _ = omega (arith, ints)
times_rises (negsuc a) n h = absurd (omega (arith, ints))

times_falls : (k : ℤ) (n : ℕ) → k ≤ℤ pos 0 → (k *ℤ pos n) ≤ℤ pos 0
times_falls (pos a) n h = let z : a ≡ 0 = omega (arith, ints) in rw z (omega (arith, ints))
times_falls (negsuc a) n _ = omega (arith, ints)

-- the line after t is a line again
pub line_on : (gap drift : ℤ) (t w : ℕ) → line gap drift (t + w) ≡ line (line gap drift t) drift w
line_on gap drift t w = omega (arith, ints, times_sum drift (pos t) (pos w))

-- the difference of two lines is a line
pub line_minus : (g k h l : ℤ) (t : ℕ) → line g k t -ℤ line h l t ≡ line (g -ℤ h) (k -ℤ l) t
line_minus g k h l t = omega (arith, ints, minus_times k l (pos t))

-- what a line gains from a time on
pub ahead : (g k : ℤ) (t u : ℕ) → t ≤ u → line g k u ≡ line g k t +ℤ k *ℤ pos (u - t)
ahead g k t u upto = let e : u ≡ t + (u - t) = omega arith in ap (line g k) e ∙ line_on g k t (u - t)

-- a line never falls or never rises
pub line_steady : (g k : ℤ) (a b : ℕ) → Steady (line g k) a b
line_steady g k a b =
    by_lt_z k (pos 0)
    (λ under. inr (λ t u _ upto _. omega (arith, ints, ahead g k t u upto, times_falls k (u - t) (omega (arith, ints)))))
    (λ above. inl (λ t u _ upto _. omega (arith, ints, ahead g k t u upto, times_rises k (u - t) above)))

-- "x is at most y" is "y less x is not negative"
pub le_by_gap : (x y : ℤ) → le_z x y ≡ le_z (pos 0) (y -ℤ x)
le_by_gap x y = grind (arith, ints)

-- so "c is at or before d" is "what d's amount has above c's is not negative"
pub order_by_gap : {C : Type 0} (amount : Amount C) (c d : C) (u : ℕ) (g : ℤ) → u ≤ last_time → g ≡ amount d u -ℤ amount c u
    → le_z (pos 0) g ≡ fact (by_amount amount) c d u
order_by_gap amount c d u g upto is =
    let known : clamp u ≡ u = omega arith in
    ap (le_z (pos 0)) is ∙ sym (le_by_gap (amount c u) (amount d u)) ∙ ap (by_amount amount c d) (sym known)

-- how large a line gets
pub line_size : (g k : ℤ) (t m n u : ℕ) → nat_abs g ≤ m → nat_abs k ≤ n → t ≤ u → nat_abs (line g k t) ≤ m + n * u
line_size g k t m n u near slow upto = omega (arith, ints, times_size k (pos t) n u slow upto)
