-- The number of each refusal, and its reason in words.
use Rattle.std.specs.Prelude.{ℕ, List, codes}
use Rattle.family.specs.declared.refusal.Refusal.{Refusal}
use Rattle.family.specs.declared.refusal.Refusal.TheVariants.{PastEnd, RangeReversed, OutsideLimits, ListingTooShort, SlotFilled, SlotEmpty, BeforeClock, NoCardStands, PlaceTooShort}

abbrev pub number_of : Refusal → ℕ
number_of PastEnd = 1
number_of RangeReversed = 2
number_of OutsideLimits = 3
number_of ListingTooShort = 9
number_of SlotFilled = 21
number_of SlotEmpty = 22
number_of BeforeClock = 23
number_of NoCardStands = 24
number_of PlaceTooShort = 25

abbrev pub reason_of : Refusal → List ℕ
reason_of PastEnd = codes "a time is above 1000000"
reason_of RangeReversed = codes "a range ends before it starts"
reason_of OutsideLimits = codes "the card is outside its limits"
reason_of ListingTooShort = codes "the place for a listing is too short"
reason_of SlotFilled = codes "the slot is filled"
reason_of SlotEmpty = codes "the slot is empty"
reason_of BeforeClock = codes "the time is below the clock"
reason_of NoCardStands = codes "no card stands"
reason_of PlaceTooShort = codes "the place is too short"
