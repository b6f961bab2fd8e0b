-- The exchanges of a mirror are those below of the pair turned round.
use Rattle.std.proofs.Common.{ℕ, Bool, true, false, Some, None, Option, refl}
use Rattle.family.specs.Order.{Order, FirstChange, NextChange}
use Rattle.family.specs.Slots.{Cards, holding_before, slot_before}
use Rattle.layers.specs.Mirrored.{turned}

-- a fact that never changes has no first change, whatever it is
never_changes : (a b : Bool) (t end : ℕ) (r : Option ℕ) → FirstChange (λ _. a) t end r → FirstChange (λ _. b) t end r
never_changes a b t end None _ = λ u _ _. refl
never_changes true b t end (Some u) (_, _, e, _) = absurd cc
never_changes false b t end (Some u) (_, _, e, _) = absurd cc

holdings_turned : {C : Type 0} (before : Order C) (h k : Option C) (t end : ℕ) (r : Option ℕ)
    → NextChange (holding_before before k h) t end r → NextChange (holding_before (turned before) h k) t end r
holdings_turned before (Some c) (Some d) t end r first = first
holdings_turned before (Some c) None t end r first = never_changes false true _ _ r first
holdings_turned before None (Some d) t end r first = never_changes true false _ _ r first
holdings_turned before None None t end r first = first

pub exchange_turned : {C : Type 0} (before : Order C) (cards : Cards C) (i j t end : ℕ) (r : Option ℕ)
    → NextChange (slot_before before cards j i) t end r → NextChange (slot_before (turned before) cards i j) t end r
exchange_turned before cards i j = holdings_turned before (cards i) (cards j)
