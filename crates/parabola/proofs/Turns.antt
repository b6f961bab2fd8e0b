-- Where the height turns: its step from one time to the next is a straight line.
use Rattle.std.proofs.Common.{◌≡◌, ℕ, zero, suc, ◌+◌, ◌*◌, ◌<◌, ◌≤◌, Bool, true, false, not, ℤ, pos, ◌+ℤ◌, ◌-ℤ◌, Some, None, Option, sym, refl, ◌∙◌, inl, inr, ⊎_elim, suc-mul, mul-suc, add-one, arith}
use Rattle.std.specs.Option.{unwrap_or}
use lib.IntN.{*ℤ-one}
use borrow.Author.Differences.{ints}
use Rattle.family.specs.Order.{FirstChange, last_time}
use Rattle.family.specs.Amounts.{Steady, TurnsBy}
use Rattle.family.proofs.Change.{first_change_exists}
use Rattle.family.proofs.Steady.{never_falls_by_steps, never_rises_by_steps}
use Rattle.crossing.specs.Line.{line, not_negative}
use Rattle.crossing.proofs.Lines.{line_steady}
use Rattle.parabola.specs.Height.{height}
use Rattle.crossing.proofs.Ring.{times_sum, sum_times}

-- the step from t to t + 1 is bend + 2 × tilt + 2 × bend × t
pub step_is : (c b a : ℤ) (t : ℕ) → line (a +ℤ (b +ℤ b)) (a +ℤ a) t ≡ height c b a (t + 1) -ℤ height c b a t
step_is c b a t =
    let square : (t + 1) * (t + 1) ≡ t * t + (t + t + 1) = omega (arith, mul-suc (suc t) t, suc-mul t t) in
    let bent = times_sum a (pos (t * t)) (pos (t + t + 1)) in
    let twice = times_sum a (pos (t + t)) (pos 1) in
    let once = times_sum a (pos t) (pos t) in
    let doubled = sum_times a a (pos t) in
    let tilted = times_sum (b +ℤ b) (pos t) (pos 1) in
    rw square (omega (arith, ints, *ℤ-one a, *ℤ-one (b +ℤ b)))

-- a fact that changes one way only and has changed does not change again
no_more : (b x y z : Bool) → (x ≡ b → y ≡ b) → (y ≡ b → z ≡ b) → y ≡ not x → z ≡ y
no_more true true y z on later _ = later (on refl) ∙ sym (on refl)
no_more true false y z _ later e = later e ∙ sym e
no_more false false y z on later _ = later (on refl) ∙ sym (on refl)
no_more false true y z _ later e = later e ∙ sym e

-- what is the same as at 0 at each time above 0 is so at 0 too
from_start : (p : ℕ → Bool) (w : ℕ) → ((k : ℕ) → 0 < k → k < w → p k ≡ p 0) → (k : ℕ) → k < w → p k ≡ p 0
from_start p w same zero _ = refl
from_start p w same (suc k) upto = same (suc k) (omega arith) upto

module _ (g : ℕ → ℤ) (gap drift : ℤ) (steps : (t : ℕ) → line gap drift t ≡ g (t + 1) -ℤ g t) where
  -- where the steps have one sign, g is steady
  one_way : (a b : ℕ) (x : Bool) → ((k : ℕ) → a ≤ k → k < b → not_negative gap drift k ≡ x) → Steady g a b
  one_way a b true same = inl (never_falls_by_steps g a b (λ k p q. omega (arith, ints, rw add-one at (steps k), same k p q)))
  one_way a b false same = inr (never_rises_by_steps g a b (λ k p q. omega (arith, ints, rw add-one at (steps k), same k p q)))

  -- the sign of a line changes one way only
  changed_once : (w k : ℕ) → w ≤ k → not_negative gap drift w ≡ not (not_negative gap drift 0) → not_negative gap drift k ≡ not_negative gap drift w
  changed_once w k on =
      ⊎_elim
      (λ never.
      no_more true _ _ _ (λ e. sym (omega (arith, ints, never 0 w (omega arith) (omega arith) on))) (λ e. sym (omega (arith, ints, never w k (omega arith) on (omega arith)))))
      (λ never.
      no_more false _ _ _ (λ e. sym (omega (arith, ints, never 0 w (omega arith) (omega arith) on))) (λ e. sym (omega (arith, ints, never w k (omega arith) on (omega arith)))))
      (line_steady gap drift 0 k)

  -- so g turns where they change their sign, and at the last time too if they never do
  pub turns_by_steps : (r : Option ℕ) → FirstChange (not_negative gap drift) 0 last_time r → TurnsBy g (unwrap_or r last_time)
  turns_by_steps None first = (
    omega arith,
    one_way 0 last_time (not_negative gap drift 0) (λ k _ q. from_start (not_negative gap drift) last_time (λ k a b. first k a (omega arith)) k q),
    one_way last_time last_time true (λ k p q. absurd (omega arith)),
  )
  turns_by_steps (Some w) (after, upto, differs, same) = (
    upto,
    one_way 0 w (not_negative gap drift 0) (λ k _ q. from_start (not_negative gap drift) w same k q),
    one_way w last_time (not_negative gap drift w) (λ k p _. changed_once w k p differs),
  )

-- so every parabola has a turning time
pub height_turns : (start tilt bend : ℤ) → (m : ℕ) × TurnsBy (height start tilt bend) m
height_turns start tilt bend =
    let gap = bend +ℤ (tilt +ℤ tilt) in
    let drift = bend +ℤ bend in
    let first = first_change_exists (not_negative gap drift) 0 last_time in
    (unwrap_or first.0 last_time, turns_by_steps (height start tilt bend) gap drift (step_is start tilt bend) first.0 first.1)
