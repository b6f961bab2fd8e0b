-- How long a leader stays ahead of another slot, and of all.
use Rattle.std.proofs.Common.{◌≡◌, ℕ, ◌+◌, ◌-◌, ◌<◌, ◌≤◌, min, max, Bool, true, false, not, is_some, Some, None, Option, sym, refl, ◌∙◌, subst, inl, ⊎_elim, arith}
use Rattle.std.specs.Option.{option_map_or}
use Rattle.std.proofs.lemmas.Bool.{false≢true, true≢false, cases_Bool, cases_eq, cases_lt}
use Rattle.family.specs.Order.{Order, TotalPreorder, FirstChange}
use Rattle.family.specs.Slots.{Cards, slot_before, holding_before}
use Rattle.envelope.specs.Lead.{every_slot, Stands, Ahead, Leader, leader_of}
use Rattle.envelope.proofs.Lead.{holdings_total, higher_wins, leader_exists}
use Rattle.fullest.specs.Lasting.{Lasting}

opposite : {X : Type 0} (x : Bool) → x ≡ not x → X
opposite true e = absurd (true≢false e)
opposite false e = absurd (false≢true e)

-- P holds exactly where the fact p is b: it lasts until p changes
lasts : (p : ℕ → Bool) (P : ℕ → Type 0) (b : Bool) (t : ℕ) (r : Option ℕ) → t ≤ 1000000 → P t
    → ((v : ℕ) → P v → p v ≡ b) → ((v : ℕ) → p v ≡ b → P v) → FirstChange p t 1000000 r → Lasting P t (option_map_or (λ u. u - 1) r 1000000)
lasts p P b t None upto holds to back first = (
  upto,
  omega arith,
  λ v after end. ⊎_elim (λ later. back v (first v later end ∙ to t holds)) (λ at. let e : v ≡ t = omega arith in rw e holds) (cases_lt t v),
  λ past _. omega arith,
)
lasts p P b t (Some u) upto holds to back (later, end, differs, same) =
    let on : (u - 1) + 1 ≡ u = omega arith in (
      omega arith,
      omega arith,
      λ v after end. ⊎_elim (λ later. back v (same v later (omega arith) ∙ to t holds)) (λ at. let e : v ≡ t = omega arith in rw e holds) (cases_lt t v),
      λ _ again. opposite (p t) (to t holds ∙ sym (to u (subst P on again)) ∙ differs),
    )

module _ {C : Type 0} (before : Order C) (ordered : TotalPreorder before) where
  level_with_itself : (h : Option C) (v : ℕ) → holding_before before h h v ≡ true
  level_with_itself h v = ⊎_elim (λ e. e) (λ e. holdings_total before ordered h h v e) (cases_Bool (holding_before before h h v))

  -- an empty slot is not before a filled one, and any slot is before an empty one
  not_before : (h k : Option C) (v : ℕ) → is_some h ≡ true → (is_some k ≡ true → holding_before before k h v ≡ false) → holding_before before k h v ≡ false
  not_before h (Some d) v _ f = f refl
  not_before (Some c) None v _ _ = refl
  not_before None None v e _ = absurd (false≢true e)

  is_before : (h k : Option C) (v : ℕ) → (is_some k ≡ true → holding_before before h k v ≡ true) → holding_before before h k v ≡ true
  is_before h (Some d) v f = f refl
  is_before (Some c) None v _ = refl
  is_before None None v _ = refl

  module _ (cards : Cards C) (i k : ℕ) (filled : is_some (cards i) ≡ true) (slot : k < 256) where
    -- A slot is ahead of a lower one where that is not at or before it, and of a higher one where it is at or before that.
    of_lower : k < i → (v : ℕ) → Ahead before cards every_slot v i k → slot_before before cards k i v ≡ false
    of_lower below v ahead =
        not_before (cards i) (cards k) v filled
        (λ s. ⊎_elim (λ above. absurd (omega arith)) (λ e. e) (ahead (slot, refl, s) (omega arith)).1)

    of_higher : i ≤ k → (v : ℕ) → Ahead before cards every_slot v i k → slot_before before cards i k v ≡ true
    of_higher above v ahead =
        is_before (cards i) (cards k) v
        (λ s. ⊎_elim (λ is. rw is (level_with_itself (cards i) v)) (λ apart. (ahead (slot, refl, s) apart).0) (cases_eq k i))

    pub ahead_lasts : (t : ℕ) (r : Option ℕ) → t ≤ 1000000 → Ahead before cards every_slot t i k
        → FirstChange (slot_before before cards (min i k) (max i k)) t 1000000 r
        → Lasting (λ v. Ahead before cards every_slot v i k) t (option_map_or (λ u. u - 1) r 1000000)
    ahead_lasts t r upto ahead first =
        ⊎_elim
        (λ below. let e : min i k ≡ k = omega arith in let e' : max i k ≡ i = omega arith in
        lasts (slot_before before cards k i) _ false t r upto ahead (of_lower below) (λ v e _ _. higher_wins before ordered cards v k i e) (rw (e, e') at first))
        (λ above. let e : min i k ≡ i = omega arith in let e' : max i k ≡ k = omega arith in
        lasts (slot_before before cards i k) _ true t r upto ahead (of_higher above) (λ v e _ apart. (e, inl (omega arith))) (rw (e, e') at first))
        (cases_lt k i)

  -- who leads, from the leader that is told
  pub leads : (cards : Cards C) (t : ℕ) (r : Option ℕ) → leader_of before cards every_slot t ≡ r → Leader before cards every_slot t r
  leads cards t r e = subst (Leader before cards every_slot t) e (leader_exists before ordered cards t every_slot)

-- A slot leads on as long as it stays ahead of each other slot.
pub leads_on : {C : Type 0} (before : Order C) (cards : Cards C) (i t m : ℕ) → Stands cards every_slot i
    → ((k : ℕ) → k < 256 → (e : ℕ) × Lasting (λ v. Ahead before cards every_slot v i k) t e × (m ≤ e))
    → (k : ℕ) × Lasting (λ v. Ahead before cards every_slot v i k) t m
    → Lasting (λ v. Leader before cards every_slot v (Some i)) t m
leads_on before cards i t m stands all (k, (from, upto, _, ends)) = (
  from,
  upto,
  λ v after end. (stands, λ j s apart. let (e, lasting, later) = all j s.0 in lasting.2 v after (omega arith) s apart),
  λ more leads. ends more (leads.1 k),
)
