-- What setting up hoppers in their slots answers and changes.
use Rattle.std.specs.Prelude.{◌≡◌, ℕ, true, ◌≢◌, ◌⊎◌, List, [], ◌∷◌, is_some, None, Ok, Err, Result, MatchOption}
use Rattle.family.specs.declared.refusal.Refusal.{Refusal}
use Rattle.family.specs.declared.refusal.Refusal.TheVariants.{OutsideLimits, SlotFilled}
use Rattle.family.specs.Slots.{Cards}
use Rattle.hoppers.specs.Fill.{MadeOf}
use Rattle.hoppers.specs.Limits.{Limits}
use Rattle.hoppers.specs.declared.hopper.Hopper.{Hopper}
use Rattle.fullest.specs.declared.reading.Reading.{Reading}
use Rattle.fullest.specs.declared.reading.Attempt.{Attempt}

-- the numbers read are within the limits
abbrev Sound : Reading → Type 0
Sound x = Limits x.fill x.rate x.capacity

-- a hopper of the numbers read stands in the slot then, and no other slot is touched; or it is refused, for
-- its numbers first and then for its slot, and nothing changes
abbrev pub Placing : Cards Hopper → Reading → Result Unit Refusal → Cards Hopper → Type 0
Placing cards x (Ok _) after =
    Sound x × (cards x.slot ≡ None)
    × MatchOption (after x.slot) ⊥ (MadeOf x.fill x.rate x.capacity)
    × ((k : ℕ) → k ≢ x.slot → after k ≡ cards k)
Placing cards x (Err e) after =
    (((e ≡ OutsideLimits) × (Sound x → ⊥)) ⊎ ((e ≡ SlotFilled) × Sound x × (is_some (cards x.slot) ≡ true)))
    × (after ≡ cards)

-- each hopper is tried in turn, and its answer kept beside it
abbrev pub SetUp : Cards Hopper → List Reading → List Attempt → Cards Hopper → Type 0
SetUp cards [] [] after = after ≡ cards
SetUp cards [] (a ∷ rest) after = ⊥
SetUp cards (x ∷ xs) [] after = ⊥
SetUp cards (x ∷ xs) (a ∷ rest) after = (mid : Cards Hopper) × (a.reading ≡ x) × Placing cards x a.answer mid × SetUp mid xs rest after
