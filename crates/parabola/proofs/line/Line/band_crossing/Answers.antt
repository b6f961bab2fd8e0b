use Rattle.std.proofs.Common.{◌≡◌, arith, w64, to_z, of_z}
use borrow.Author.Differences.{ints}
use Rattle.parabola.proofs.Bands.{stays_above, leaves, stays_below, enters}
use Rattle.parabola.proofs.line.Line.band_crossing.Goals as goal

pub returns-then-now-reach : goal.returns-then-now-reach
returns-then-now-reach c =
    let rising = c.rising-line.ensures in
    stays_above c.args.self c.rising-line.result rising.rises rising.far c.args.reach c.args.span.from.number c.args.span.end.number c.at-now.result c.at-now.result (omega (arith, ints))

pub returns-then-now-reach-2 : goal.returns-then-now-reach-2
returns-then-now-reach-2 c =
    let rising = c.rising-line.ensures in
    let first = rw (c.into-then-now-reach-2.ensures, c.into.ensures) at c.next_crossing.ensures in
    leaves c.args.self c.rising-line.result rising.rises rising.far c.args.reach c.args.span.from.number c.args.span.end.number _ _
    c.next_crossing.result (omega (arith, ints)) (omega (arith, ints)) (omega (arith, ints)) first

pub returns-in_err-u : goal.returns-in_err-u
returns-in_err-u c =
    let rising = c.rising-line.ensures in
    let first = rw (c.into-2.ensures, c.into-3.ensures) at c.in_err-u.ensures in
    rw c.from_residual.ensures
    (stays_below c.args.self c.rising-line.result rising.rises rising.far c.args.reach c.args.span.from.number c.args.span.end.number _ _
    (omega (arith, ints)) (omega (arith, ints)) (omega (arith, ints)) first)

pub returns : goal.returns
returns c =
    let rising = c.rising-line.ensures in
    let u = c.in_ok-u.u in
    let first = rw (c.into-2.ensures, c.into-3.ensures) at c.in_ok-u.ensures in
    let read : c.from.result.number ≡ u = omega (arith, first.1) in
    let there = rw read at c.at.ensures.value in
    enters c.args.self c.rising-line.result rising.rises rising.far c.args.reach c.args.span.from.number c.args.span.end.number _ _
    (omega (arith, ints)) (omega (arith, ints)) (omega (arith, ints)) c.then_some.result u (to_z w64 (of_z w64 c.at.result)) (to_z w64 (of_z w64 c.from-reach.result)) c.then_some.ensures (omega (arith, ints)) (omega (arith, ints)) first
