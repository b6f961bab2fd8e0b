-- How long something holds.
use Rattle.std.specs.Prelude.{ℕ, ◌+◌, ◌<◌, ◌≤◌}
use Rattle.family.specs.Order.{last_time}

-- P holds from first to last, and no longer
abbrev pub Lasting : (ℕ → Type 0) → ℕ → ℕ → Type 0
Lasting P first last = (first ≤ last) × (last ≤ last_time) × ((v : ℕ) → first ≤ v → v ≤ last → P v) × (last < last_time → P (last + 1) → ⊥)
