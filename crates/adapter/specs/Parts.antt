-- The order of two slots by their amounts, answers that tell a fact, and parts of the times in which it changes at most
-- once.
use Rattle.std.specs.Prelude.{◌≡◌, ℕ, ◌<◌, ◌≤◌, Bool}
use Rattle.family.specs.Slots.{Cards, slot_before}
use Rattle.family.specs.Amounts.{Amount, by_amount}

-- whether the amount of slot i is no larger than that of slot j
abbrev pub no_larger : {C : Type 0} → Amount C → Cards C → ℕ → ℕ → ℕ → Bool
no_larger amount cards = slot_before (by_amount amount) cards

-- at each number that a u32 holds, the answer is whether the fact holds then
abbrev pub Tells : (ℕ → Bool → Type 0) → (ℕ → Bool) → Type 0
Tells answers p = (t : ℕ) (r : Bool) → t < 4294967296 → answers t r → r ≡ p t

-- from a to b the fact changes one way only: once it has a certain value, it keeps it
abbrev pub ChangesOnce : (ℕ → Bool) → ℕ → ℕ → Type 0
ChangesOnce p a b = (x : Bool) × ((t u : ℕ) → (a ≤ t) × (t ≤ b) → (a ≤ u) × (u ≤ b) → t ≤ u → p t ≡ x → p u ≡ x)
