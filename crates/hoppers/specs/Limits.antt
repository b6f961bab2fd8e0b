-- Which hoppers there are.
use Rattle.std.specs.Prelude.{ℕ, ◌≤◌, ℤ, unsigned_abs}

-- a capacity from 1 to 1,000,000,000, an opening fill from 0 to the capacity, and a rate from
-- −1,000,000 to 1,000,000
abbrev pub Limits : ℕ → ℤ → ℕ → Type 0
Limits fill rate capacity = (1 ≤ capacity) × (capacity ≤ 1000000000) × (fill ≤ capacity) × (unsigned_abs rate ≤ 1000000)
