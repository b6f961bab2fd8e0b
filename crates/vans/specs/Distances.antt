-- Squared distances: how large they are, and by what two of them differ.
use Rattle.std.specs.Prelude.{◌≡◌, ℕ, ◌+◌, ◌*◌, ◌≤◌, ℤ, ◌+ℤ◌, ◌-ℤ◌, ◌*ℤ◌, unsigned_abs, refl}
use Rattle.std.proofs.Common.{arith}
use Rattle.std.proofs.lemmas.Int.{ints}
use Rattle.family.specs.Order.{last_time, clamp, FewChanges}
use Rattle.family.specs.Amounts.{WithinSize, by_amount, Turning}
use Rattle.family.proofs.Steady.{steady_alike, few_if_turning}
use Rattle.crossing.specs.Line.{line}
use Rattle.crossing.proofs.Ring.{times_size, square_of_line}
use Rattle.crossing.proofs.Lines.{line_size}
use Rattle.parabola.specs.Height.{height}
use Rattle.parabola.proofs.Heights.{height_sum, height_difference}
use Rattle.parabola.proofs.Turns.{height_turns}
use Rattle.vans.specs.Distance.{square, distance_at}
use Rattle.vans.specs.Spread.{start_of, tilt_of, bend_of}
use Rattle.vans.specs.declared.van.Van.{Van}

-- how large an inner product is
pub inner_size : (ax ay bx by : ℤ) (m n : ℕ) → unsigned_abs ax ≤ m → unsigned_abs ay ≤ m → unsigned_abs bx ≤ n → unsigned_abs by ≤ n → unsigned_abs (ax *ℤ bx +ℤ ay *ℤ by) ≤ m * n + m * n
inner_size ax ay bx by m n p q r s = omega (arith, ints, times_size ax bx m n p r, times_size ay by m n q s)

-- a coordinate up to the last time
pub coordinate_size : (p v : ℤ) (t : ℕ) → unsigned_abs p ≤ 100000 → unsigned_abs v ≤ 1000 → t ≤ 1000000 → unsigned_abs (line p v t) ≤ 1000100000
coordinate_size p v t near slow upto = line_size p v t 100000 1000 1000000 near slow upto

pub distance_size : (v : Van) (t : ℕ) → t ≤ 1000000 → unsigned_abs (distance_at v t) ≤ 2000400020000000000
distance_size v t upto =
    let x = coordinate_size v.px v.vx t v.within.0 v.within.2 upto in
    let y = coordinate_size v.py v.vy t v.within.1 v.within.3 upto in
    omega (arith, inner_size (line v.px v.vx t) (line v.py v.vy t) (line v.px v.vx t) (line v.py v.vy t) 1000100000 1000100000 x y x y)

pub distances_sized : WithinSize distance_at
distances_sized v t = distance_size v (clamp t) (omega arith)

pub start_size : (v : Van) → unsigned_abs (start_of v) ≤ 20000000000
start_size v = inner_size v.px v.py v.px v.py 100000 100000 v.within.0 v.within.1 v.within.0 v.within.1

pub tilt_size : (v : Van) → unsigned_abs (tilt_of v) ≤ 200000000
tilt_size v = inner_size v.px v.py v.vx v.vy 100000 1000 v.within.0 v.within.1 v.within.2 v.within.3

pub bend_size : (v : Van) → unsigned_abs (bend_of v) ≤ 2000000
bend_size v = inner_size v.vx v.vy v.vx v.vy 1000 1000 v.within.2 v.within.3 v.within.2 v.within.3

-- a squared distance is a parabola over time
distance_is : (v : Van) (t : ℕ) → height (start_of v) (tilt_of v) (bend_of v) t ≡ distance_at v t
distance_is v t =
    let x = square_of_line v.px v.vx t in
    let y = square_of_line v.py v.vy t in
    let both = height_sum (square v.px) (v.px *ℤ v.vx) (square v.vx) (square v.py) (v.py *ℤ v.vy) (square v.vy) t in cc

-- and so is the difference of two
pub gap_is : (c d : Van) (start tilt bend : ℤ) → start ≡ start_of d -ℤ start_of c → tilt ≡ tilt_of d -ℤ tilt_of c → bend ≡ bend_of d -ℤ bend_of c
    → (t : ℕ) → height start tilt bend t ≡ distance_at d t -ℤ distance_at c t
gap_is c d start tilt bend start_is tilt_is bend_is t =
    let less = height_difference (start_of d) (tilt_of d) (bend_of d) (start_of c) (tilt_of c) (bend_of c) t in
    let one = distance_is c t in
    let two = distance_is d t in cc

-- so they turn once and trade places at most twice
pub distances_turn : Turning distance_at
distances_turn c d =
    let m = height_turns (start_of c -ℤ start_of d) (tilt_of c -ℤ tilt_of d) (bend_of c -ℤ bend_of d) in
    let same = gap_is d c (start_of c -ℤ start_of d) (tilt_of c -ℤ tilt_of d) (bend_of c -ℤ bend_of d) refl refl refl in
    (m.0, (m.1.0, steady_alike _ _ 0 m.0 same m.1.1, steady_alike _ _ m.0 last_time same m.1.2))

pub distances_few : FewChanges 2 (by_amount distance_at)
distances_few = few_if_turning distance_at distances_turn
