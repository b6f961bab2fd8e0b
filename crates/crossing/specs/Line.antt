-- A number that moves by the same step at each time, and the first time at which its sign changes.
use Rattle.std.specs.Prelude.{◌≡◌, ℕ, ◌<◌, Bool, not, ℤ, pos, ◌+ℤ◌, ◌*ℤ◌, Some, None, Option, int_le}

-- the number w times after it was gap
abbrev pub line : ℤ → ℤ → ℕ → ℤ
line gap drift w = gap +ℤ drift *ℤ pos w

-- whether it is not negative then
abbrev pub not_negative : ℤ → ℤ → ℕ → Bool
not_negative gap drift w = int_le (pos 0) (line gap drift w)

-- r is the least w above 0 at which the fact p differs from what it is at 0, or none
abbrev pub FirstEver : (ℕ → Bool) → Option ℕ → Type 0
FirstEver p None = (w : ℕ) → p w ≡ p 0
FirstEver p (Some w) = (0 < w) × (p w ≡ not (p 0)) × ((v : ℕ) → v < w → p v ≡ p 0)
