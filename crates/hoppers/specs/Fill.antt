-- What a hopper holds at a time, and what making one answers.
use Rattle.std.specs.Prelude.{◌≡◌, ℕ, ℤ, pos, ◌+ℤ◌, ◌*ℤ◌, Result}
use Rattle.family.specs.declared.refusal.Refusal.{Refusal}
use Rattle.family.specs.Makes.{Makes}
use Rattle.family.specs.Amounts.{Amount}
use Rattle.hoppers.specs.Limits.{Limits}
use Rattle.hoppers.specs.declared.hopper.Hopper.{Hopper}

-- the opening fill and the rate for each minute since; neither 0 nor the capacity holds it
abbrev pub fill_at : Amount Hopper
fill_at h t = pos h.fill +ℤ h.rate *ℤ pos t

-- a hopper keeps the numbers that it was made of
abbrev pub MadeOf : ℕ → ℤ → ℕ → Hopper → Type 0
MadeOf fill rate capacity h = (h.fill ≡ fill) × (h.rate ≡ rate) × (h.capacity ≡ capacity)

-- it is made of numbers within the limits, and of no others
abbrev pub Making : ℕ → ℤ → ℕ → Result Hopper Refusal → Type 0
Making fill rate capacity = Makes (Limits fill rate capacity) (MadeOf fill rate capacity)
