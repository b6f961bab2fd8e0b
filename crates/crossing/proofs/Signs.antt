-- When gap + drift × w changes its sign.
use Rattle.std.proofs.Common.{◌≡◌, ℕ, zero, suc, ◌+◌, ◌*◌, ◌/◌, ◌<◌, ◌≤◌, Bool, true, false, not, ℤ, pos, negsuc, nat_abs, ◌≤ℤ◌, ◌<ℤ◌, Some, sym, ap, ◌∙◌, mul_comm, arith}
use borrow.Author.Differences.{ints}
use Rattle.std.proofs.lemmas.Nat.{div-add-mod', mod_below, mul-le}
use Rattle.crossing.specs.Line.{not_negative, FirstEver}

-- a fact that is b while d × w is within n, and not b beyond, changes one past the quotient
changes_past : (p : ℕ → Bool) (b : Bool) (n d : ℕ) → ((w : ℕ) → suc d * w ≤ n → p w ≡ b) → ((w : ℕ) → n < suc d * w → p w ≡ not b) → FirstEver p (Some (n / suc d + 1))
changes_past p b n d within beyond =
    let q = n / suc d in
    let start = within 0 (omega arith) in (
      omega arith,
      beyond (q + 1) (omega (arith, div-add-mod' n (suc d), mod_below n (suc d) (omega arith), mul_comm (suc d) (q + 1))) ∙ sym (ap not start),
      λ v h. within v (omega (arith, div-add-mod' n (suc d), mul-le v (suc d) q (suc d) (omega arith) (omega arith), mul_comm (suc d) v)) ∙ sym start,
    )

-- not negative and falling: it is negative as soon as it has fallen by more than the gap
falls : (g d : ℕ) → FirstEver (not_negative (pos g) (negsuc d)) (Some (g / suc d + 1))
falls g d = changes_past (not_negative (pos g) (negsuc d)) true g d (λ w h. grind (arith, ints)) (λ w h. grind (arith, ints))

pub falls_below : (gap drift : ℤ) (g d : ℕ) → pos 0 ≤ℤ gap → drift <ℤ pos 0 → g ≡ nat_abs gap → d ≡ nat_abs drift
    → FirstEver (not_negative gap drift) (Some (g / d + 1))
falls_below (pos a) (negsuc b) g d _ _ p q = rw (p, q) (falls a b)
falls_below (pos a) (pos b) g d _ h _ _ = absurd (omega (arith, ints))
falls_below (negsuc a) drift g d h _ _ _ = absurd (omega (arith, ints))

-- negative and rising: it is not negative as soon as it is 0, so of the gap only one less than its size counts
rises : (g d : ℕ) → FirstEver (not_negative (negsuc g) (pos (suc d))) (Some (g / suc d + 1))
rises g d = changes_past (not_negative (negsuc g) (pos (suc d))) false g d (λ w h. grind (arith, ints)) (λ w h. grind (arith, ints))

pub rises_to_zero : (gap drift : ℤ) (g d : ℕ) → gap <ℤ pos 0 → pos 0 <ℤ drift → g + 1 ≡ nat_abs gap → d ≡ nat_abs drift
    → FirstEver (not_negative gap drift) (Some (g / d + 1))
rises_to_zero (negsuc a) (pos (suc b)) g d _ _ p q = let e : g ≡ a = omega arith in rw (e, q) (rises a b)
rises_to_zero (negsuc a) (pos zero) g d _ h _ _ = absurd (omega (arith, ints))
rises_to_zero (negsuc a) (negsuc b) g d _ h _ _ = absurd (omega (arith, ints))
rises_to_zero (pos a) drift g d h _ _ _ = absurd (omega (arith, ints))
