-- What a family holds: in each slot one card or nothing; and what put and lift answer and change.
use Rattle.std.specs.Prelude.{◌≡◌, ℕ, Bool, true, false, ◌≢◌, is_some, Some, None, Ok, Err, Option, Result}
use Rattle.family.specs.declared.refusal.Refusal.{Refusal}
use Rattle.family.specs.declared.refusal.Refusal.TheVariants.{SlotFilled, SlotEmpty}
use Rattle.family.specs.Order.{Order, fact}

-- the card in each slot, or none
abbrev pub Cards : Type 0 → Type 0
Cards C = ℕ → Option C

-- whether the holding of one slot is at or before that of another: an empty slot comes after
-- every filled one, and two empty ones are level
abbrev pub holding_before : {C : Type 0} → Order C → Option C → Option C → ℕ → Bool
holding_before before (Some c) (Some d) t = fact before c d t
holding_before before None (Some d) t = false
holding_before before (Some c) None t = true
holding_before before None None t = true

-- whether slot i is at or before slot j
abbrev pub slot_before : {C : Type 0} → Order C → Cards C → ℕ → ℕ → ℕ → Bool
slot_before before cards i j t = holding_before before (cards i) (cards j) t

-- after differs from cards at the slot alone, where it holds h
abbrev pub ChangedAt : {C : Type 0} → Cards C → ℕ → Option C → Cards C → Type 0
ChangedAt cards slot h after = (after slot ≡ h) × ((k : ℕ) → k ≢ slot → after k ≡ cards k)

-- Put fills an empty slot and touches no other; a filled slot is refused.
abbrev pub PutAnswer : {C : Type 0} → Cards C → ℕ → C → Result Unit Refusal → Cards C → Type 0
PutAnswer cards slot card (Ok _) after = (cards slot ≡ None) × ChangedAt cards slot (Some card) after
PutAnswer cards slot card (Err e) after = (e ≡ SlotFilled) × (is_some (cards slot) ≡ true)

-- Lift empties a filled slot and touches no other; an empty slot is refused.
abbrev pub LiftAnswer : {C : Type 0} → Cards C → ℕ → Result Unit Refusal → Cards C → Type 0
LiftAnswer cards slot (Ok _) after = (is_some (cards slot) ≡ true) × ChangedAt cards slot None after
LiftAnswer cards slot (Err e) after = (e ≡ SlotEmpty) × (cards slot ≡ None)
