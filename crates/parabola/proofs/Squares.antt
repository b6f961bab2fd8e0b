-- How the square of half the slope tells the sign of the height.
use Rattle.std.proofs.Common.{◌≡◌, ℕ, zero, suc, ◌+◌, ◌*◌, true, false, not, leb, ℤ, pos, negsuc, ◌+ℤ◌, ◌-ℤ◌, ◌*ℤ◌, ◌<ℤ◌, Some, None, Option, sym, ap, ◌∙◌, ⊎_elim, arith}
use lib.IntN.{*ℤ_comm}
use lib.Signed.{le_z, lt_z}
use borrow.Author.Differences.{ints}
use Rattle.std.proofs.lemmas.Nat.{mul-le}
use Rattle.std.proofs.lemmas.Bool.{cases_lt, cond-true, cond-false}
use Rattle.crossing.specs.Line.{line}
use Rattle.parabola.specs.declared.curve.Parabola.{Parabola}
use Rattle.parabola.specs.Height.{height, height_of}
use Rattle.parabola.specs.Reach.{in_reach, RootOf}
use Rattle.parabola.specs.Slope.{discriminant_of, half_slope_of, in_hollow, ReachOf}
use Rattle.crossing.proofs.Ring.{times_sum, times_assoc, square_of_line}

-- bend × height is the square of half the slope less the discriminant
moved_over : (q x m n : ℤ) → x +ℤ m +ℤ n ≡ (q +ℤ m +ℤ n) -ℤ (q -ℤ x)
moved_over q x m n = omega (arith, ints)

bend_height : (c b a : ℤ) (t : ℕ) → a *ℤ height c b a t ≡ line b a t *ℤ line b a t -ℤ (b *ℤ b -ℤ a *ℤ c)
bend_height c b a t =
    let square = square_of_line b a t in
    let outer = times_sum a (c +ℤ (b +ℤ b) *ℤ pos t) (a *ℤ pos (t * t)) in
    let inner = times_sum a c ((b +ℤ b) *ℤ pos t) in
    let middle = times_assoc a (b +ℤ b) (pos t) in
    let twice = times_sum a b b in
    let turned = *ℤ_comm a b in
    let last = times_assoc a a (pos (t * t)) in
    let all = moved_over (b *ℤ b) (a *ℤ c) ((b *ℤ a +ℤ b *ℤ a) *ℤ pos t) ((a *ℤ a) *ℤ pos (t * t)) in cc

-- the height is below 0 where the square is below the discriminant, if the bend is positive
opens_upward : (a h q d : ℤ) → a *ℤ h ≡ q -ℤ d → pos 0 <ℤ a → not (le_z (pos 0) h) ≡ le_z q (d -ℤ pos 1)
opens_upward (pos (suc k)) (pos n) q d e _ = grind (arith, ints)
opens_upward (pos (suc k)) (negsuc n) q d e _ = grind (arith, ints)
opens_upward (pos zero) h q d _ above = absurd (omega (arith, ints))
opens_upward (negsuc k) h q d _ above = absurd (omega (arith, ints))

-- it is not below 0 where the square is at most the discriminant, if the bend is negative
opens_downward : (a h q d : ℤ) → a *ℤ h ≡ q -ℤ d → a <ℤ pos 0 → le_z (pos 0) h ≡ le_z q d
opens_downward (negsuc k) (pos n) q d e _ = grind (arith, ints)
opens_downward (negsuc k) (negsuc n) q d e _ = grind (arith, ints)
opens_downward (pos k) h q d _ under = absurd (omega (arith, ints))

-- a square is at most n where the number is at most the root of n away from 0
square_in_root : (m r : ℕ) (n : ℤ) → RootOf n (Some r) → le_z (pos (m * m)) n ≡ leb m r
square_in_root m r n (low, high) =
    ⊎_elim
    (λ above. let wide = mul-le (r + 1) (r + 1) m m (omega arith) (omega arith) in grind (arith, ints))
    (λ upto. let wide = mul-le m m r r upto upto in grind (arith, ints))
    (cases_lt r m)

in_root : (y n : ℤ) (r : ℕ) → RootOf n (Some r) → le_z (y *ℤ y) n ≡ in_reach r y
in_root (pos m) n r root = square_in_root m r n root
in_root (negsuc m) n r root = square_in_root (suc m) r n root

-- no square is negative
no_root : (y n : ℤ) → n <ℤ pos 0 → le_z (y *ℤ y) n ≡ false
no_root (pos m) n under = grind (arith, ints)
no_root (negsuc m) n under = grind (arith, ints)

-- so the height is in the hollow where the square is at most a number, and half the slope is within the root of that
reach_by_root : (p : Parabola) (n : ℤ) (r : Option ℕ) → ((t : ℕ) → in_hollow p t ≡ le_z (half_slope_of p t *ℤ half_slope_of p t) n) → RootOf n r → ReachOf p r
reach_by_root p n None hollow under = λ t. hollow t ∙ no_root (half_slope_of p t) n under
reach_by_root p n (Some r) hollow root = λ t. hollow t ∙ in_root (half_slope_of p t) n r root

-- the number is the discriminant, or one less
pub reach_upward : (p : Parabola) (n : ℤ) (r : Option ℕ) → pos 0 <ℤ p.bend → n ≡ discriminant_of p -ℤ pos 1 → RootOf n r → ReachOf p r
reach_upward p n r above e =
    let opens : lt_z (pos 0) p.bend ≡ true = sym (omega (arith, ints)) in
    reach_by_root p n r (λ t. cond-true _ _ _ opens ∙ opens_upward p.bend (height_of p t) _ (discriminant_of p) (bend_height p.start p.tilt p.bend t) above ∙ ap (le_z _) (sym e))

pub reach_downward : (p : Parabola) (n : ℤ) (r : Option ℕ) → p.bend <ℤ pos 0 → n ≡ discriminant_of p → RootOf n r → ReachOf p r
reach_downward p n r under e =
    let opens : lt_z (pos 0) p.bend ≡ false = sym (omega (arith, ints)) in
    reach_by_root p n r (λ t. cond-false _ _ _ opens ∙ opens_downward p.bend (height_of p t) _ (discriminant_of p) (bend_height p.start p.tilt p.bend t) under ∙ ap (le_z _) (sym e))
