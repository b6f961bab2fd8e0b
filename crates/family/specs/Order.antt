-- Times, facts that change with time, and what the order of a family's cards has to obey.
use Rattle.std.specs.Prelude.{◌≡◌, ℕ, ◌-◌, ◌<◌, ◌≤◌, min, Bool, true, not, ◌||◌, List, [], ◌∷◌, length, Some, None, Option}

-- times run from 0 to this one
abbrev pub last_time : ℕ
last_time = 1000000

-- a later time is read as the last
abbrev pub clamp : ℕ → ℕ
clamp t = min t last_time

-- an order: whether the first card is at or before the second at a time
abbrev pub Order : Type 0 → Type 0
Order C = C → C → ℕ → Bool

-- the fact "c is at or before d", as it goes over the times
abbrev pub fact : {C : Type 0} → Order C → C → C → ℕ → Bool
fact before c d t = before c d (clamp t)

-- At each time, of any two cards, the same card twice among them, one is at or before the other,
-- and c at or before d with d at or before e gives c at or before e.
pub record TotalPreorder {C : Type 0} (before : Order C) : Type 0 where
  pub total : (c d : C) (t : ℕ) → (fact before c d t || fact before d c t) ≡ true
  pub transitive : (c d e : C) (t : ℕ) → fact before c d t ≡ true → fact before d e t ≡ true → fact before c e t ≡ true

-- the list has times above t, in rising order, at each of which the fact p differs from the time before
abbrev pub Changes : (ℕ → Bool) → ℕ → List ℕ → Type 0
Changes p t [] = Unit {0}
Changes p t (u ∷ us) = (t < u) × (p u ≡ not (p (u - 1))) × Changes p u us

-- For each ordered pair of cards the fact differs from the time before at no more than s times.
-- (Past the last time no fact changes, since each such time is read as the last.)
abbrev pub FewChanges : {C : Type 0} → ℕ → Order C → Type 0
FewChanges {C} s before = (c d : C) (ts : List ℕ) → Changes (fact before c d) 0 ts → length ts ≤ s

-- r is the least u with t < u ≤ end at which the fact p differs from the fact at t, or none
abbrev pub FirstChange : (ℕ → Bool) → ℕ → ℕ → Option ℕ → Type 0
FirstChange p t end None = (u : ℕ) → t < u → u ≤ end → p u ≡ p t
FirstChange p t end (Some u) = (t < u) × (u ≤ end) × (p u ≡ not (p t)) × ((v : ℕ) → t < v → v < u → p v ≡ p t)

-- the same from a time to an end as a caller names them, each read as the last time if later
abbrev pub NextChange : (ℕ → Bool) → ℕ → ℕ → Option ℕ → Type 0
NextChange p t end r = FirstChange p (clamp t) (clamp end) r
