-- Which vans there are, and how far they may come.
use Rattle.std.specs.Prelude.{◌≤◌, ℤ, unsigned_abs}

-- positions from −100,000 to 100,000 metres, and velocities from −1,000 to 1,000 metres a minute
abbrev pub Limits : ℤ → ℤ → ℤ → ℤ → Type 0
Limits px py vx vy = (unsigned_abs px ≤ 100000) × (unsigned_abs py ≤ 100000) × (unsigned_abs vx ≤ 1000) × (unsigned_abs vy ≤ 1000)

-- where a van may be up to the last time: no coordinate is above 100,000 + 1,000 × 1,000,000
abbrev pub Near : ℤ → ℤ → Type 0
Near x y = (unsigned_abs x ≤ 1000100000) × (unsigned_abs y ≤ 1000100000)
