-- How far a van is from the site, and what making one answers.
use Rattle.std.specs.Prelude.{◌≡◌, ℤ, ◌+ℤ◌, ◌*ℤ◌, Result}
use Rattle.family.specs.declared.refusal.Refusal.{Refusal}
use Rattle.family.specs.Makes.{Makes}
use Rattle.family.specs.Amounts.{Amount}
use Rattle.crossing.specs.Line.{line}
use Rattle.vans.specs.Limits.{Limits}
use Rattle.vans.specs.declared.van.Van.{Van}

abbrev pub square : ℤ → ℤ
square z = z *ℤ z

-- the squared distance from 0, 0 at t: (px + vx × t)² + (py + vy × t)²
abbrev pub distance_at : Amount Van
distance_at v t = square (line v.px v.vx t) +ℤ square (line v.py v.vy t)

-- a van keeps the numbers that it was made of
abbrev pub MadeOf : ℤ → ℤ → ℤ → ℤ → Van → Type 0
MadeOf px py vx vy v = (v.px ≡ px) × (v.py ≡ py) × (v.vx ≡ vx) × (v.vy ≡ vy)

-- it is made of numbers within the limits, and of no others
abbrev pub Making : ℤ → ℤ → ℤ → ℤ → Result Van Refusal → Type 0
Making px py vx vy = Makes (Limits px py vx vy) (MadeOf px py vx vy)
