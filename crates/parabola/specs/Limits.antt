-- Which parabolas there are.
use Rattle.std.specs.Prelude.{◌≤◌, ℤ, unsigned_abs}

-- numbers so small that no sum or product that an answer needs leaves 64 bits
abbrev pub Limits : ℤ → ℤ → ℤ → Type 0
Limits start tilt bend = (unsigned_abs start ≤ 100000000000) × (unsigned_abs tilt ≤ 1000000000) × (unsigned_abs bend ≤ 4000000)
