-- First changes on the two sides of a turning time.
use Rattle.std.proofs.Common.{◌≡◌, ℕ, ◌≤◌, min, Bool, ◌-ℤ◌, Some, None, Option, refl, arith}
use Rattle.family.specs.Order.{last_time, FirstChange}
use Rattle.family.specs.Slots.{Cards}
use Rattle.family.specs.Amounts.{Amount, Steady, TurnsAt}
use Rattle.family.proofs.Change.{first_change_from, first_change_upto}
use Rattle.family.proofs.Steady.{lasts}
use Rattle.adapter.specs.Parts.{no_larger, ChangesOnce}

-- the first change is that of the first part, or else that of the second
pub first_on_either_side : (p : ℕ → Bool) (a m b : ℕ) (early r : Option ℕ) → min a b ≤ m → m ≤ b → FirstChange p a m early
    → (early ≡ None → FirstChange p m b r) → ((u : ℕ) → early ≡ Some u → r ≡ Some u) → FirstChange p a b r
first_on_either_side p a m b (Some u) r from upto first _ same = rw (same u refl) (first_change_upto p a m b u upto first)
first_on_either_side p a m b None None from upto first late _ = let later = late refl in λ u above below. grind (arith, later u, first u)
first_on_either_side p a m b None (Some w) from upto first late _ = first_change_from p a m b (Some w) (omega (arith, late refl)) first (late refl)

-- where the difference of two cards is steady, the order of the slots that hold them changes once: so it does on
-- each side of their turning time
module _ {C : Type 0} (amount : Amount C) (cards : Cards C) (i j : ℕ) (c d : C) (at_i : cards i ≡ Some c) (at_j : cards j ≡ Some d) where
  once_if_steady : (a b : ℕ) → b ≤ last_time → Steady (λ t. amount c t -ℤ amount d t) a b → ChangesOnce (no_larger amount cards i j) a b
  once_if_steady a b upto steady =
      let l = lasts amount c d a b steady in
      rw (at_i, at_j) (
        l.0,
        λ t u (t_from, t_upto) (u_from, u_upto) on is. l.1 t u (omega arith, omega arith) (omega arith, omega arith) on is,
      )

  pub once_on_each_side : (m : ℕ) → TurnsAt amount c d m → ChangesOnce (no_larger amount cards i j) 0 m × ChangesOnce (no_larger amount cards i j) m last_time
  once_on_each_side m (within, early, late) = (once_if_steady 0 m within early, once_if_steady m last_time (omega arith) late)
