use Rattle.std.proofs.Common.{arith}
use borrow.Author.Differences.{ints}
use Rattle.vans.proofs.Kept.{difference_kept}
use Rattle.vans.specs.Distances.{gap_is, start_size, tilt_size, bend_size}
use Rattle.vans.proofs.van.Van.gap_to.Goals as goal

pub invariant_of-result : goal.invariant_of-result
invariant_of-result c =
    let one = c.args.self.now in
    let two = c.args.other.now in record {
      within = (
        omega (arith, ints, start_size one, start_size two),
        omega (arith, ints, tilt_size one, tilt_size two),
        omega (arith, ints, bend_size one, bend_size two),
      );
    }

pub returns : goal.returns
returns c =
    let one = c.args.self.now in
    let two = c.args.other.now in
    let own = c.distance-own.ensures in
    let others = c.distance-others.ensures in
    gap_is one two _ _ _
    (difference_kept _ _ _ _ others.start own.start (omega (arith, start_size two)) (omega (arith, start_size one)))
    (difference_kept _ _ _ _ others.tilt own.tilt (omega (arith, tilt_size two)) (omega (arith, tilt_size one)))
    (difference_kept _ _ _ _ others.bend own.bend (omega (arith, bend_size two)) (omega (arith, bend_size one)))
