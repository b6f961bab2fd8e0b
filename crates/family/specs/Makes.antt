-- What making a card of some numbers answers.
use Rattle.std.specs.Prelude.{◌≡◌, Ok, Err, Result}
use Rattle.family.specs.declared.refusal.Refusal.{Refusal}
use Rattle.family.specs.declared.refusal.Refusal.TheVariants.{OutsideLimits}

-- a card is made of numbers within the limits, and of no others
abbrev pub Makes : {C : Type 0} → Type 0 → (C → Type 0) → Result C Refusal → Type 0
Makes limits made_of (Ok c) = limits × made_of c
Makes limits made_of (Err e) = (e ≡ OutsideLimits) × (limits → ⊥)
