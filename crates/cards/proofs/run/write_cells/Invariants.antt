use Rattle.std.proofs.Common.{◌≡◌, ℕ, ◌+◌, ◌<◌, get_or, pos}
use Rattle.family.specs.Order.{clamp}
use Rattle.cards.proofs.run.write_cells.Given as goal

-- the cells before this one hold their amounts
abbrev pub invariant-loop-k : goal.invariant-loop-k
invariant-loop-k g l = (j : ℕ) → j < l.k → g.C.PricedCard.amount l.card (clamp (l.first + j)) ≡ get_or l.cells j (pos 0)
