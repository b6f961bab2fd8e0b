-- A pile of three layers: a late start of a mirror of a late start.
use Rattle.std.specs.Prelude.{ℕ, ◌+◌}
use Rattle.family.specs.Order.{Order}
use Rattle.family.specs.Amounts.{Amount}
use Rattle.layers.specs.declared.late.LateStart.{LateStart}
use Rattle.layers.specs.declared.mirror.Mirror.{Mirror}
use Rattle.layers.specs.Mirrored.{turned, negated}
use Rattle.layers.specs.Delayed.{delayed, delayed_amount}

abbrev pub Pile : Type 0 → Type 0
Pile F = LateStart (Mirror (LateStart F))

-- the family at the bottom
abbrev pub bottom : {F : Type 0} → Pile F → F
bottom pile = pile.below.0.below

-- by how much both late starts are later together
abbrev pub both_delays : {F : Type 0} → Pile F → ℕ
both_delays pile = pile.below.0.delay + pile.delay

-- the order at the bottom, later by both delays and turned round
abbrev pub piled : {F C : Type 0} → (F → Order C) → Pile F → Order C
piled before pile = turned (delayed (both_delays pile) (before (bottom pile)))

-- the amounts there, later by both and negated
abbrev pub piled_amount : {F C : Type 0} → (F → Amount C) → Pile F → Amount C
piled_amount amount pile = negated (delayed_amount (both_delays pile) (amount (bottom pile)))
