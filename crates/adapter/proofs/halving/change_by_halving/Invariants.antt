use Rattle.std.proofs.Common.{◌-◌, ◌<◌, ◌≤◌, not}
use Rattle.adapter.proofs.halving.change_by_halving.Given as goal

abbrev pub invariant-loop-differs : goal.invariant-loop-differs
invariant-loop-differs g l =
    (l.from ≤ l.same) × (l.same < l.differs) × (l.differs ≤ l.end)
    × goal.F-post g l.holds l.same l.held × goal.F-post g l.holds l.differs (not l.held)

abbrev pub decreases-loop-differs : goal.decreases-loop-differs
decreases-loop-differs g l = l.differs - l.same
