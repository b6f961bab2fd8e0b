-- Which fee cards there are.
use Rattle.std.specs.Prelude.{ℕ, ◌≤◌}

-- an opening fee from 0 to 1,000,000,000, a rate from 0 to 1,000,000 and a cap from 0 to 1,000,000,000,000,
-- each in thousandths of the currency unit
abbrev pub Limits : ℕ → ℕ → ℕ → Type 0
Limits opening rate cap = (opening ≤ 1000000000) × (rate ≤ 1000000) × (cap ≤ 1000000000000)
