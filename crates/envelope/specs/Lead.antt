-- Who leads a set of slots at a time.
use Rattle.std.specs.Prelude.{◌≡◌, ℕ, zero, suc, ◌<◌, Bool, true, false, cond, ◌&&◌, ◌≢◌, ◌⊎◌, is_some, Some, None, Option}
use Rattle.family.specs.Order.{Order}
use Rattle.family.specs.Slots.{Cards, slot_before}

-- a set of slots, by the test whether a slot is in it; slots are the numbers below 256
abbrev pub SlotSet : Type 0
SlotSet = ℕ → Bool

abbrev pub every_slot : SlotSet
every_slot k = true

-- a card stands in slot k of the set
abbrev pub Stands : {C : Type 0} → Cards C → SlotSet → ℕ → Type 0
Stands cards set k = (k < 256) × (set k ≡ true) × (is_some (cards k) ≡ true)

abbrev pub NoneStands : {C : Type 0} → Cards C → SlotSet → Type 0
NoneStands cards set = (k : ℕ) → Stands cards set k → ⊥

module _ {C : Type 0} (before : Order C) (cards : Cards C) where
  -- slot i beats slot j at t if i is at or before j, and i is the lower slot or j is not at or before i
  abbrev pub Beats : ℕ → ℕ → ℕ → Type 0
  Beats t i j = (slot_before before cards i j t ≡ true) × ((i < j) ⊎ (slot_before before cards j i t ≡ false))

  -- i beats k, unless no card of the set stands in k or k is i itself
  abbrev pub Ahead : SlotSet → ℕ → ℕ → ℕ → Type 0
  Ahead set t i k = Stands cards set k → k ≢ i → Beats t i k

  -- the leader of a set: the filled slot in it that beats every other filled one, none where all are empty
  abbrev pub Leader : SlotSet → ℕ → Option ℕ → Type 0
  Leader set t None = NoneStands cards set
  Leader set t (Some i) = Stands cards set i × ((k : ℕ) → Ahead set t i k)

  -- The leader told by going through the slots in rising order: a card that stands takes the lead from the
  -- slots below it unless their leader is at or before it.
  abbrev pub succeeding : ℕ → Option ℕ → ℕ → Option ℕ
  succeeding t None k = Some k
  succeeding t (Some i) k = cond (slot_before before cards i k t) (Some i) (Some k)

  abbrev pub going_on : SlotSet → ℕ → ℕ → Option ℕ → Option ℕ
  going_on set t k best = cond (set k && is_some (cards k)) (succeeding t best k) best

  unfoldable pub leader_below : SlotSet → ℕ → ℕ → Option ℕ
  leader_below set t zero = None
  leader_below set t (suc k) = going_on set t k (leader_below set t k)

  unfoldable pub leader_of : SlotSet → ℕ → Option ℕ
  leader_of set t = leader_below set t 256
