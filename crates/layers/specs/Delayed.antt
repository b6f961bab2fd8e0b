-- What a late start does to an order and to amounts.
use Rattle.std.specs.Prelude.{ℕ, ◌+◌}
use Rattle.family.specs.Order.{Order, fact, clamp}
use Rattle.family.specs.Amounts.{Amount}

-- the order below at t + delay, past the end read as at the last time
abbrev pub delayed : {C : Type 0} → ℕ → Order C → Order C
delayed delay before c d t = fact before c d (t + delay)

-- and so with amounts
abbrev pub delayed_amount : {C : Type 0} → ℕ → Amount C → Amount C
delayed_amount delay amount c t = amount c (clamp (t + delay))
