-- What a table of 256 places holds.
use Rattle.std.specs.Prelude.{None, slice_index_or}
use Rattle.family.specs.Slots.{Cards}
use Rattle.slots.specs.declared.table.Slots.{Slots}

-- the card in each slot, or none; past the last slot there is none
abbrev pub cards_of : {C : Type 0} → Slots C → Cards C
cards_of s k = slice_index_or s.places k None
