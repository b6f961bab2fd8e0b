-- Sums and differences of heights.
use Rattle.std.proofs.Common.{◌≡◌, ℕ, ◌*◌, ℤ, pos, ◌+ℤ◌, ◌-ℤ◌, arith}
use borrow.Author.Differences.{ints}
use Rattle.crossing.proofs.Ring.{sum_times, minus_times}
use Rattle.parabola.specs.Height.{height}

pub height_sum : (c b a d e f : ℤ) (t : ℕ) → height (c +ℤ d) (b +ℤ e) (a +ℤ f) t ≡ height c b a t +ℤ height d e f t
height_sum c b a d e f t =
    omega (arith, ints, sum_times (b +ℤ e) (b +ℤ e) (pos t), sum_times b e (pos t), sum_times b b (pos t), sum_times e e (pos t), sum_times a f (pos (t * t)))

pub height_difference : (c b a d e f : ℤ) (t : ℕ) → height (c -ℤ d) (b -ℤ e) (a -ℤ f) t ≡ height c b a t -ℤ height d e f t
height_difference c b a d e f t =
    omega (arith, ints, sum_times (b -ℤ e) (b -ℤ e) (pos t), minus_times b e (pos t), sum_times b b (pos t), sum_times e e (pos t), minus_times a f (pos (t * t)))
