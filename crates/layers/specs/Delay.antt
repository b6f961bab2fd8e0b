-- The facts of a late start are those below, moved by the delay.
use Rattle.std.specs.Prelude.{◌≡◌, ℕ, ◌+◌, ◌-◌, ◌≤◌, Bool, not, List, [], ◌∷◌, map, Some, None, Option}
use Rattle.std.specs.Option.{option_map}
use Rattle.std.proofs.Common.{sym, ap, ◌∙◌, ⊎_elim, arith}
use Rattle.std.proofs.lemmas.Bool.{cases_lt}
use Rattle.std.proofs.lemmas.List.{length-map}
use Rattle.family.specs.Order.{Order, clamp, fact, Changes, FewChanges, NextChange}
use Rattle.family.specs.Slots.{Cards, holding_before, slot_before}
use Rattle.family.proofs.Change.{first_change_alike}
use Rattle.family.proofs.Holdings.{holdings_alike}
use Rattle.layers.specs.Mirrored.{turned}
use Rattle.layers.specs.Delayed.{delayed}

moved_fact : {C : Type 0} (delay : ℕ) (before : Order C) (c d : C) (t : ℕ) → fact (delayed delay before) c d t ≡ fact before c d (t + delay)
moved_fact delay before c d t = let e : clamp (clamp t + delay) ≡ clamp (t + delay) = omega arith in ap (before c d) e

-- the changes of a late start are some of those below
moved_changes : (p q : ℕ → Bool) (delay s t : ℕ) (ts : List ℕ) → ((u : ℕ) → q u ≡ p (u + delay)) → s ≤ t + delay
    → Changes q t ts → Changes p s (map (λ u. u + delay) ts)
moved_changes p q delay s t [] is on _ = tt
moved_changes p q delay s t (u ∷ us) is on (above, differs, rest) =
    let e : (u - 1) + delay ≡ (u + delay) - 1 = omega arith in (
      omega arith,
      sym (is u) ∙ differs ∙ ap not (is (u - 1) ∙ ap p e),
      moved_changes p q delay (u + delay) u us is (omega arith) rest,
    )

pub moved_few : {C : Type 0} (delay s : ℕ) (before : Order C) → FewChanges s before → FewChanges s (delayed delay before)
moved_few delay s before few c d ts changes =
    omega (arith, length-map ts (λ u. u + delay), few c d (map (λ u. u + delay) ts) (moved_changes (fact before c d) _ delay 0 0 ts (moved_fact delay before c d) (omega arith) changes))

-- what holdings of a late start are, and that below nothing changes past the end
moved_holding : {C : Type 0} (delay : ℕ) (before : Order C) (h k : Option C) (t : ℕ)
    → holding_before (delayed delay before) h k t ≡ holding_before before h k (t + delay)
moved_holding delay before h k t = holdings_alike (delayed delay before) before t (t + delay) (λ c d. moved_fact delay before c d t) h k

still_past_end : {C : Type 0} (before : Order C) (h k : Option C) (t : ℕ) → holding_before before h k t ≡ holding_before before h k (clamp t)
still_past_end before h k t =
    let e : clamp t ≡ clamp (clamp t) = omega arith in
    holdings_alike before before t (clamp t) (λ c d. ap (before c d) e) h k

-- the first change of a late start is that below from s to e, moved back
module _ {C : Type 0} (delay : ℕ) (before : Order C) (cards : Cards C) (i j t end s e : ℕ) (s_is : clamp s ≡ clamp (t + delay)) (e_is : clamp e ≡ clamp (end + delay)) where
  is : (u : ℕ) → slot_before (delayed delay before) cards i j u ≡ slot_before before cards i j (clamp (u + delay))
  is u = moved_holding delay before (cards i) (cards j) u ∙ still_past_end before (cards i) (cards j) (u + delay)

  start : slot_before (delayed delay before) cards i j (clamp t) ≡ slot_before before cards i j (clamp s)
  start = is (clamp t) ∙ ap (slot_before before cards i j) (omega arith)

  pub moved_exchange : (below r : Option ℕ) → NextChange (slot_before before cards i j) s e below → r ≡ option_map (λ w. w - delay) below
      → NextChange (slot_before (delayed delay before) cards i j) t end r
  moved_exchange None r first back = rw back (λ u above upto.
      ⊎_elim
      (λ later. is u ∙ first (clamp (u + delay)) later (omega arith) ∙ sym start)
      (λ level. is u ∙ ap (slot_before before cards i j) (omega arith) ∙ sym start)
      (cases_lt (clamp s) (clamp (u + delay))))
  moved_exchange (Some w) r (above, upto, differs, same) back = rw back (
    omega arith,
    omega arith,
    is (w - delay) ∙ ap (slot_before before cards i j) (omega arith) ∙ differs ∙ ap not (sym start),
    λ v a b. is v ∙ same (clamp (v + delay)) (omega arith) (omega arith) ∙ sym start,
  )

-- a late start of a mirror of a late start is the mirror of one late start by both delays
pub piled_holding : {C : Type 0} (first second : ℕ) (before : Order C) (h k : Option C) (t : ℕ)
    → holding_before (delayed second (turned (delayed first before))) h k t ≡ holding_before (turned (delayed (first + second) before)) h k t
piled_holding first second before h k t =
    let e : clamp (clamp (clamp t + second) + first) ≡ clamp (clamp t + (first + second)) = omega arith in
    holdings_alike (delayed second (turned (delayed first before))) (turned (delayed (first + second) before)) t t (λ c d. ap (before d c) e) h k

pub piled_exchange : {C : Type 0} (first second : ℕ) (before : Order C) (cards : Cards C) (i j t end : ℕ) (r : Option ℕ)
    → NextChange (slot_before (delayed second (turned (delayed first before))) cards i j) t end r
    → NextChange (slot_before (turned (delayed (first + second) before)) cards i j) t end r
piled_exchange first second before cards i j t end r =
    first_change_alike _ _ (clamp t) (clamp end) r (λ u _ _. piled_holding first second before (cards i) (cards j) u)
