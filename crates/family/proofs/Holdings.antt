-- What holds of two cards holds of the slots that have them.
use Rattle.std.proofs.Common.{◌≡◌, ℕ, Some, None, Option, refl}
use Rattle.family.specs.Order.{Order, fact}
use Rattle.family.specs.Slots.{holding_before}

-- where one order at a time is another at another, so it is with holdings
pub holdings_alike : {C : Type 0} (a b : Order C) (s t : ℕ) → ((c d : C) → fact a c d s ≡ fact b c d t) → (h k : Option C)
    → holding_before a h k s ≡ holding_before b h k t
holdings_alike a b s t alike (Some c) (Some d) = alike c d
holdings_alike a b s t alike None (Some d) = refl
holdings_alike a b s t alike (Some c) None = refl
holdings_alike a b s t alike None None = refl
