-- Numbers within a distance of 0, and the root of a number.
use Rattle.std.specs.Prelude.{ℕ, ◌+◌, ◌*◌, Bool, ℤ, pos, ◌≤ℤ◌, ◌<ℤ◌, Some, None, Option, nat_le, unsigned_abs}

-- whether a number is no farther from 0 than this, on either side
abbrev pub in_reach : ℕ → ℤ → Bool
in_reach reach y = nat_le (unsigned_abs y) reach

-- r is the root of n, rounded down, or none where n is negative
abbrev pub RootOf : ℤ → Option ℕ → Type 0
RootOf n None = n <ℤ pos 0
RootOf n (Some r) = (pos (r * r) ≤ℤ n) × (n <ℤ pos ((r + 1) * (r + 1)))
