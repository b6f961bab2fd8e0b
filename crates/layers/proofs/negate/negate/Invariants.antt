use Rattle.std.proofs.Common.{◌≡◌, ℕ, ◌<◌, ◌≤◌, get_or, pos, neg_ℤ}
use Rattle.layers.proofs.negate.negate.Given as goal

abbrev pub invariant-loop-cell : goal.invariant-loop-cell
invariant-loop-cell l =
    ((k : ℕ) → k < l.cell-index → get_or l.cells k (pos 0) ≡ neg_ℤ (get_or l.initial.cells k (pos 0)))
    × ((k : ℕ) → l.cell-index ≤ k → get_or l.cells k (pos 0) ≡ get_or l.initial.cells k (pos 0))
