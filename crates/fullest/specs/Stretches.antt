-- The chart of a family: who leads over which times.
use Rattle.std.specs.Prelude.{◌≡◌, ℕ, ◌+◌, ◌<◌, ◌⊎◌, List, [], ◌∷◌, Some, None, Option}
use Rattle.std.specs.List.{AllByRecursion}
use Rattle.family.specs.Order.{last_time, Order}
use Rattle.family.specs.Slots.{Cards}
use Rattle.family.specs.Amounts.{Amount, amount_of}
use Rattle.envelope.specs.Lead.{every_slot, NoneStands, Leader}
use Rattle.fullest.specs.Lasting.{Lasting}
use Rattle.fullest.specs.declared.stretch.PricedStretch.{PricedStretch}

-- the stretches follow one another from the time lo on, and the last ends just before hi
abbrev pub Following : ℕ → List PricedStretch → ℕ → Type 0
Following lo [] hi = lo ≡ hi
Following lo (s ∷ ss) hi = (s.stretch.first ≡ lo) × Following (s.stretch.last + 1) ss hi

module _ {C : Type 0} (before : Order C) (cards : Cards C) (amount : Amount C) where
  -- the slot leads from the stretch's first time to its last and no longer, and has the amount told at the first
  abbrev pub Leading : PricedStretch → Type 0
  Leading s =
      Lasting (λ v. Leader before cards every_slot v (Some s.stretch.slot)) s.stretch.first s.stretch.last
      × (amount_of amount (cards s.stretch.slot) s.stretch.first ≡ Some s.amount)

  -- the longest stretches, one after the other, from 0 to the last time; none where no card stands
  abbrev pub Chart : List PricedStretch → Type 0
  Chart ss = ((ss ≡ []) × NoneStands cards every_slot) ⊎ (Following 0 ss (last_time + 1) × AllByRecursion Leading ss)

  -- the stretch that begins at first, and the time after its end; none past the last time, nor where no card stands
  abbrev pub Told : ℕ → Option PricedStretch → ℕ → Type 0
  Told first None next = (last_time < first) ⊎ NoneStands cards every_slot
  Told first (Some s) next = (s.stretch.first ≡ first) × Leading s × (next ≡ s.stretch.last + 1)
