use Rattle.std.proofs.Common.{◌≡◌, take, vec_items}
use Rattle.fullest.specs.Placing.{SetUp}
use Rattle.fullest.proofs.account.set_up.Given as goal

abbrev pub invariant-loop-reading : goal.invariant-loop-reading
invariant-loop-reading g l =
    SetUp (g.F.CardSlots.slots l.initial.family) (take l.reading-index l.readings) (vec_items l.attempts) (g.F.CardSlots.slots l.family)
    × (g.F.Family.before l.family ≡ g.F.Family.before l.initial.family)
