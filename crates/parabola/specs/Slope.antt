-- Half the slope of a parabola, and how it tells the sign of the height.
use Rattle.std.specs.Prelude.{◌≡◌, ℕ, Bool, false, cond, not, ℤ, pos, ◌-ℤ◌, ◌*ℤ◌, Some, None, Option, int_lt}
use Rattle.crossing.specs.Line.{line}
use Rattle.parabola.specs.declared.curve.Parabola.{Parabola}
use Rattle.parabola.specs.Height.{not_below}
use Rattle.parabola.specs.Reach.{in_reach}

-- tilt + bend × t
abbrev pub half_slope_of : Parabola → ℕ → ℤ
half_slope_of p t = line p.tilt p.bend t

-- tilt² − bend × start
abbrev pub discriminant_of : Parabola → ℤ
discriminant_of p = p.tilt *ℤ p.tilt -ℤ p.bend *ℤ p.start

-- whether the height lies in the hollow: below 0 where the parabola opens upward, not below 0 where it
-- opens downward
abbrev pub in_hollow : Parabola → ℕ → Bool
in_hollow p t = cond (int_lt (pos 0) p.bend) (not (not_below p t)) (not_below p t)

-- the height lies in the hollow exactly where half the slope is in reach of 0, or nowhere
abbrev pub ReachOf : Parabola → Option ℕ → Type 0
ReachOf p None = (t : ℕ) → in_hollow p t ≡ false
ReachOf p (Some reach) = (t : ℕ) → in_hollow p t ≡ in_reach reach (half_slope_of p t)
