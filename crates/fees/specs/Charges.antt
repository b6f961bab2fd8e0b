-- The charges of fee cards as courses with a cap.
use Rattle.std.specs.Prelude.{◌≡◌, ℕ, zero, suc, ◌+◌, ◌-◌, ◌*◌, ◌<◌, ◌≤◌, min, Bool, true, false, not, ℤ, pos, ◌-ℤ◌, ◌<ℤ◌, Some, None, Option, refl}
use Rattle.std.proofs.Common.{sym, ap, ◌∙◌, ⊎_elim, arith, mul-suc, mul_comm}
use Rattle.std.proofs.lemmas.Int.{ints}
use Rattle.std.proofs.lemmas.Nat.{mul-le}
use Rattle.std.proofs.lemmas.Bool.{cases_lt}
use Rattle.std.specs.Option.{unwrap_or}
use Rattle.family.specs.Order.{last_time, FewChanges, FirstChange}
use Rattle.family.specs.Amounts.{by_amount, TurnsAt, Turning}
use Rattle.family.proofs.Change.{first_change_alike, first_change_exists}
use Rattle.family.proofs.Steady.{steady_point, few_if_turning}
use Rattle.crossing.specs.Line.{not_negative}
use Rattle.fees.specs.Charge.{charge, charge_at, CappedFrom}
use Rattle.fees.specs.declared.card.FeeCard.{FeeCard}
use Rattle.fees.specs.Courses.{Course, from_first_cap, to_first_cap, until_before_cap, down_from_before_cap, up_from_before_cap}

-- below the cap a card charges by its rate
pub charge_course : (c : FeeCard) (m : ℕ) → CappedFrom c m → Course (charge c) c.rate m
charge_course c m (upto, under, over) = record {
  full = λ t soon. omega (arith, mul-suc c.rate t, under (suc t) soon);
  still = λ t late within. omega (arith, mul-suc c.rate t, over t late within);
  up = λ t. omega (arith, mul-suc c.rate t);
  most = λ t. omega (arith, mul-suc c.rate t);
}

-- whether the gap to the cap is closed tells whether the cap holds
module _ (c : FeeCard) where
  abbrev closed : ℕ → Bool
  closed t = not_negative (pos c.opening -ℤ pos c.cap) (pos c.rate) t

  holds : (t : ℕ) → closed t ≡ true → c.cap ≤ c.opening + c.rate * t
  holds t e = omega (arith, ints)

  fails : (t : ℕ) → closed t ≡ false → c.opening + c.rate * t < c.cap
  fails t e = omega (arith, ints)

  at_start : c.opening < c.cap → closed 0 ≡ false
  at_start under = grind (arith, ints)

  -- it is open up to u where it does not change before
  all_under : c.opening < c.cap → (u : ℕ) → ((v : ℕ) → 0 < v → v < u → closed v ≡ closed 0) → (t : ℕ) → t < u → c.opening + c.rate * t < c.cap
  all_under under u same zero _ = fails 0 (at_start under)
  all_under under u same (suc t) h = fails (suc t) (same (suc t) (omega arith) h ∙ at_start under)

  first_closed : c.opening < c.cap → (r : Option ℕ) → FirstChange closed 0 last_time r → CappedFrom c (unwrap_or r last_time)
  first_closed under (Some u) (above, upto, differs, same) = (
    upto,
    all_under under u same,
    λ t late _. omega (arith, holds u (differs ∙ ap not (at_start under)), mul-le u c.rate t c.rate late (omega arith), mul_comm c.rate u, mul_comm c.rate t),
  )
  first_closed under None same = (omega arith, all_under under last_time (λ v a b. same v a (omega arith)), λ t a b. absurd (omega arith))

  -- as the crossing is told, of numbers that are the gap and the rate
  pub first_capped : (gap drift : ℤ) (r : Option ℕ) → gap ≡ pos c.opening -ℤ pos c.cap → drift ≡ pos c.rate → gap <ℤ pos 0
      → FirstChange (λ v. not_negative gap drift (v - 0)) 0 last_time r → (m : ℕ) → m ≡ unwrap_or r last_time → CappedFrom c m
  first_capped gap drift r gap_is drift_is under first m is =
      rw is (first_closed (omega (arith, ints)) r
      (first_change_alike _ closed 0 last_time r (λ v _ _. let e : v - 0 ≡ v = omega arith in cc) first))

-- so every card has a time from which its cap holds
capped_somewhere : (c : FeeCard) → (m : ℕ) × CappedFrom c m
capped_somewhere c =
    ⊎_elim
    (λ under. let first = first_change_exists (closed c) 0 last_time in (unwrap_or first.0 last_time, first_closed c under first.0 first.1))
    (λ over. (0, (omega arith, λ t early. absurd (omega arith), λ t _ _. omega arith)))
    (cases_lt c.opening c.cap)

-- the turning time of two cards: at the first cap, or one before it
module _ (c d : FeeCard) (i j : ℕ) (ci : CappedFrom c i) (dj : CappedFrom d j) where
  cx : Course (charge c) c.rate i
  cx = charge_course c i ci

  dy : Course (charge d) d.rate j
  dy = charge_course d j dj

  pub turns_at_start : 0 ≡ min i j → TurnsAt charge_at c d 0
  turns_at_start is = (omega arith, steady_point _ 0, from_first_cap cx dy 0 is)

  -- n is the time of the first cap and m the one before it
  module _ (m n : ℕ) (next : n ≡ suc m) (is : n ≡ min i j) where
    c_next : charge c n ≡ charge c (suc m)
    c_next = ap (charge c) next

    d_next : charge d n ≡ charge d (suc m)
    d_next = ap (charge d) next

    pub turns_at_cap : (c.rate < d.rate → charge c n + charge d m ≤ charge c m + charge d n)
        → (d.rate < c.rate → charge c m + charge d n ≤ charge c n + charge d m) → TurnsAt charge_at c d n
    turns_at_cap slow fast = rw next (
      omega (arith, ci.0),
      to_first_cap cx dy m (sym next ∙ is)
          (λ slower. omega (arith, slow slower, c_next, d_next)) (λ faster. omega (arith, fast faster, c_next, d_next)),
      from_first_cap cx dy (suc m) (sym next ∙ is),
    )

    pub turns_down_before_cap : d.rate < c.rate → charge c n + charge d m ≤ charge c m + charge d n → TurnsAt charge_at c d m
    turns_down_before_cap faster down = (
      omega (arith, ci.0),
      until_before_cap cx dy m (sym next ∙ is),
      down_from_before_cap cx dy m (sym next ∙ is)
          faster (omega (arith, c_next, d_next)),
    )

    pub turns_up_before_cap : c.rate < d.rate → charge c m + charge d n ≤ charge c n + charge d m → TurnsAt charge_at c d m
    turns_up_before_cap slower up = (
      omega (arith, ci.0),
      until_before_cap cx dy m (sym next ∙ is),
      up_from_before_cap cx dy m (sym next ∙ is)
          slower (omega (arith, c_next, d_next)),
    )

    some_turn : (k : ℕ) × TurnsAt charge_at c d k
    some_turn =
        ⊎_elim
        (λ slower. ⊎_elim
        (λ up. (m, turns_up_before_cap slower (omega arith)))
        (λ on. (n, turns_at_cap (λ _. on) (λ h. absurd (omega arith))))
        (cases_lt (charge c m + charge d n) (charge c n + charge d m)))
        (λ upto. ⊎_elim
        (λ down. ⊎_elim
        (λ faster. (m, turns_down_before_cap faster (omega arith)))
        (λ level. (n, turns_at_cap (λ h. absurd (omega arith)) (λ h. absurd (omega arith))))
        (cases_lt d.rate c.rate))
        (λ on. (n, turns_at_cap (λ h. absurd (omega arith)) (λ _. on)))
        (cases_lt (charge c n + charge d m) (charge c m + charge d n)))
        (cases_lt c.rate d.rate)

  turn_by_first_cap : (n : ℕ) → n ≡ min i j → (m : ℕ) × TurnsAt charge_at c d m
  turn_by_first_cap zero is = (0, turns_at_start is)
  turn_by_first_cap (suc m) is = some_turn m (suc m) refl is

pub charges_turn : Turning charge_at
charges_turn c d =
    let i = capped_somewhere c in
    let j = capped_somewhere d in
    turn_by_first_cap c d i.0 j.0 i.1 j.1 (min i.0 j.0) refl

pub charges_few : FewChanges 2 (by_amount charge_at)
charges_few = few_if_turning charge_at charges_turn
