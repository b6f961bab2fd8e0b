-- Amounts: what a card comes to at a time, the order they give, a run of them, and turning times.
use Rattle.std.specs.Prelude.{◌≡◌, ℕ, ◌+◌, ◌<◌, ◌≤◌, true, ◌⊎◌, List, length, ℤ, pos, ◌-ℤ◌, ◌≤ℤ◌, is_some, Some, None, Ok, Err, Option, Result, int_le, slice_index_or, unsigned_abs}
use Rattle.std.specs.Option.{option_map}
use Rattle.family.specs.declared.refusal.Refusal.{Refusal}
use Rattle.family.specs.declared.refusal.Refusal.TheVariants.{PastEnd, SlotEmpty}
use Rattle.family.specs.Order.{last_time, clamp, Order}

-- what each card comes to at each time
abbrev pub Amount : Type 0 → Type 0
Amount C = C → ℕ → ℤ

-- no amount is larger than this, on either side of 0
abbrev pub most_amount : ℕ
most_amount = 2000400020000000000

abbrev pub WithinSize : {C : Type 0} → Amount C → Type 0
WithinSize {C} amount = (c : C) (t : ℕ) → unsigned_abs (amount c (clamp t)) ≤ most_amount

-- the order in which the smaller amount comes first
abbrev pub by_amount : {C : Type 0} → Amount C → Order C
by_amount amount c d t = int_le (amount c t) (amount d t)

-- c is at or before d exactly when c's amount is no larger
abbrev pub OrderedBy : {C : Type 0} → Order C → Amount C → Type 0
OrderedBy {C} before amount = (c d : C) (t : ℕ) → before c d (clamp t) ≡ by_amount amount c d (clamp t)

-- the amount of a slot's holding at a time, none for an empty slot
abbrev pub amount_of : {C : Type 0} → Amount C → Option C → ℕ → Option ℤ
amount_of amount h t = option_map (λ c. amount c (clamp t)) h

-- a run that begins at first and has as many times as there are cells lies within the times
abbrev pub InRange : ℕ → List ℤ → Type 0
InRange first cells = (first ≤ last_time) × (first + length cells ≤ last_time + 1)

-- whether it does, or is refused for it
abbrev pub RangeAnswer : ℕ → List ℤ → Result Unit Refusal → Type 0
RangeAnswer first cells (Ok _) = InRange first cells
RangeAnswer first cells (Err e) = (e ≡ PastEnd) × (InRange first cells → ⊥)

-- each cell k holds the amount of a slot's holding at first + k
abbrev pub CellsHold : {C : Type 0} → Amount C → Option C → ℕ → List ℤ → Type 0
CellsHold amount h first cells = (k : ℕ) → k < length cells → amount_of amount h (first + k) ≡ Some (slice_index_or cells k (pos 0))

-- a run is refused where it would pass the end, and after that where the slot is empty
abbrev pub RunRefused : {C : Type 0} → Option C → ℕ → List ℤ → Refusal → Type 0
RunRefused h first cells e = ((e ≡ PastEnd) × (InRange first cells → ⊥)) ⊎ ((e ≡ SlotEmpty) × InRange first cells × (h ≡ None))

-- A run of amounts puts the amount at first + k into cell k. A refused one leaves every cell as it was.
abbrev pub RunAnswer : {C : Type 0} → Amount C → Option C → ℕ → List ℤ → Result Unit Refusal → List ℤ → Type 0
RunAnswer amount h first cells (Ok _) after = InRange first cells × (is_some h ≡ true) × (length after ≡ length cells) × CellsHold amount h first after
RunAnswer amount h first cells (Err e) after = RunRefused h first cells e × (after ≡ cells)

-- from a to b the number g never falls
abbrev pub NeverFalls : (ℕ → ℤ) → ℕ → ℕ → Type 0
NeverFalls g a b = (t u : ℕ) → a ≤ t → t ≤ u → u ≤ b → g t ≤ℤ g u

-- from a to b it never rises
abbrev pub NeverRises : (ℕ → ℤ) → ℕ → ℕ → Type 0
NeverRises g a b = (t u : ℕ) → a ≤ t → t ≤ u → u ≤ b → g u ≤ℤ g t

-- one of the two
abbrev pub Steady : (ℕ → ℤ) → ℕ → ℕ → Type 0
Steady g a b = NeverFalls g a b ⊎ NeverRises g a b

-- g is steady up to m, and again from m on
abbrev pub TurnsBy : (ℕ → ℤ) → ℕ → Type 0
TurnsBy g m = (m ≤ last_time) × Steady g 0 m × Steady g m last_time

-- m is a turning time of two cards: the difference of their amounts turns there
abbrev pub TurnsAt : {C : Type 0} → Amount C → C → C → ℕ → Type 0
TurnsAt amount c d m = TurnsBy (λ t. amount c t -ℤ amount d t) m

-- any two cards have a turning time
abbrev pub Turning : {C : Type 0} → Amount C → Type 0
Turning {C} amount = (c d : C) → (m : ℕ) × TurnsAt amount c d m
