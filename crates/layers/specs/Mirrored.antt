-- What a mirror does to an order and to amounts.
use Rattle.std.specs.Prelude.{neg_ℤ}
use Rattle.family.specs.Order.{Order}
use Rattle.family.specs.Amounts.{Amount}

-- c is at or before d where d was at or before c
abbrev pub turned : {C : Type 0} → Order C → Order C
turned before c d t = before d c t

abbrev pub negated : {C : Type 0} → Amount C → Amount C
negated amount c t = neg_ℤ (amount c t)
