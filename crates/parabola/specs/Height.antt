-- The height of a parabola at a time.
use Rattle.std.specs.Prelude.{ℕ, ◌*◌, Bool, ℤ, pos, ◌+ℤ◌, ◌*ℤ◌, int_le}
use Rattle.parabola.specs.declared.curve.Parabola.{Parabola}

-- start + 2 × tilt × t + bend × t²
abbrev pub height : ℤ → ℤ → ℤ → ℕ → ℤ
height start tilt bend t = start +ℤ (tilt +ℤ tilt) *ℤ pos t +ℤ bend *ℤ pos (t * t)

abbrev pub height_of : Parabola → ℕ → ℤ
height_of p t = height p.start p.tilt p.bend t

-- whether it is not negative then
abbrev pub not_below : Parabola → ℕ → Bool
not_below p t = int_le (pos 0) (height_of p t)
