-- The fills of hoppers as straight lines: how large they are, and how two of them differ.
use Rattle.std.specs.Prelude.{◌≡◌, ℕ, ◌+◌, ◌-◌, ◌≤◌, ℤ, pos, ◌-ℤ◌, Option, unsigned_abs}
use Rattle.std.proofs.Common.{sym, arith}
use Rattle.family.specs.Order.{clamp, fact, FewChanges, FirstChange, NextChange}
use Rattle.family.specs.Amounts.{WithinSize, by_amount, Steady, TurnsAt, Turning}
use Rattle.family.proofs.Change.{first_change_alike}
use Rattle.family.proofs.Steady.{steady_alike, few_if_steady}
use Rattle.crossing.specs.Line.{line, not_negative}
use Rattle.crossing.proofs.Lines.{line_on, line_minus, line_steady, line_size, order_by_gap}
use Rattle.hoppers.specs.Fill.{fill_at}
use Rattle.hoppers.specs.declared.hopper.Hopper.{Hopper}

pub fill_size : (h : Hopper) (t : ℕ) → t ≤ 1000000 → unsigned_abs (fill_at h t) ≤ 1001000000000
fill_size h t k = line_size (pos h.fill) h.rate t 1000000000 1000000 1000000 (omega (arith, h.within)) h.within.3 k

pub fills_sized : WithinSize fill_at
fills_sized h t = omega (arith, fill_size h (clamp t) (omega arith))

pub fills_steady : (c d : Hopper) (a b : ℕ) → Steady (λ t. fill_at c t -ℤ fill_at d t) a b
fills_steady c d a b =
    let same : (t : ℕ) → line (pos c.fill -ℤ pos d.fill) (c.rate -ℤ d.rate) t ≡ fill_at c t -ℤ fill_at d t =
    λ t. sym (line_minus (pos c.fill) c.rate (pos d.fill) d.rate t) in
    steady_alike _ _ a b same (line_steady (pos c.fill -ℤ pos d.fill) (c.rate -ℤ d.rate) a b)

pub fills_few : FewChanges 1 (by_amount fill_at)
fills_few = few_if_steady fill_at (λ c d. fills_steady c d 0 1000000)

-- two lines never turn, so any time is a turning time
pub turn_anywhere : (c d : Hopper) (m : ℕ) → m ≤ 1000000 → TurnsAt fill_at c d m
turn_anywhere c d m upto = (upto, fills_steady c d 0 m, fills_steady c d m 1000000)

pub fills_turn : Turning fill_at
fills_turn c d = (0, turn_anywhere c d 0 (omega arith))

-- from a time on, "c is at or before d" is "the gap at that time, moved on by the difference of the
-- rates, is not negative"
pub gap_tells : (c d : Hopper) (gap drift : ℤ) (t u : ℕ) → gap ≡ fill_at d t -ℤ fill_at c t → drift ≡ d.rate -ℤ c.rate
    → t ≤ u → u ≤ 1000000 → not_negative gap drift (u - t) ≡ fact (by_amount fill_at) c d u
gap_tells c d gap drift t u g k after upto =
    let at_t = line_minus (pos d.fill) d.rate (pos c.fill) c.rate t in
    let at_u = line_minus (pos d.fill) d.rate (pos c.fill) c.rate u in
    let on = line_on (pos d.fill -ℤ pos c.fill) (d.rate -ℤ c.rate) t (u - t) in
    let there : t + (u - t) ≡ u = omega arith in
    let gap_is : line gap drift (u - t) ≡ fill_at d u -ℤ fill_at c u = cc in
    order_by_gap fill_at c d u (line gap drift (u - t)) upto gap_is

-- so the first crossing of the gap from there on is the next exchange
pub exchange_told : (c d : Hopper) (gap drift : ℤ) (t end from upto : ℕ) (r : Option ℕ) → from ≡ clamp t → upto ≡ clamp end
    → gap ≡ fill_at d from -ℤ fill_at c from → drift ≡ d.rate -ℤ c.rate
    → FirstChange (λ u. not_negative gap drift (u - from)) from upto r → NextChange (fact (by_amount fill_at) c d) t end r
exchange_told c d gap drift t end from upto r starts ends g k first =
    rw (sym starts, sym ends) (first_change_alike _ _ from upto r (λ u after to. gap_tells c d gap drift from u g k after (omega arith)) first)
