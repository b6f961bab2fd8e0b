-- There is one leader: it exists, and no other slot is one.
use Rattle.std.proofs.Common.{◌≡◌, ℕ, zero, suc, ◌<◌, ◌≤◌, Bool, true, false, cond, ◌&&◌, ◌≢◌, is_some, Some, None, Option, sym, refl, ap, subst, inl, inr, ⊎_elim, arith}
use Rattle.std.proofs.lemmas.Bool.{both_ways, false≢true, true≢false, cases_Bool, cases_eq, cases_lt, and_parts, and_from, or_cases}
use Rattle.family.specs.Order.{Order, TotalPreorder}
use Rattle.family.specs.Slots.{Cards, slot_before, holding_before}
use Rattle.envelope.specs.Lead.{SlotSet, Stands, Beats, Leader, succeeding, going_on, leader_below, leader_of}

module _ {C : Type 0} (before : Order C) (ordered : TotalPreorder before) where
  -- of any two holdings one is at or before the other
  pub holdings_total : (h k : Option C) (t : ℕ) → holding_before before h k t ≡ false → holding_before before k h t ≡ true
  holdings_total (Some c) (Some d) t e = ⊎_elim (λ yes'. absurd (both_ways _ e yes')) (λ yes'. yes') (or_cases _ _ (ordered.total c d t))
  holdings_total (Some c) None t e = absurd (true≢false e)
  holdings_total None (Some d) t e = refl
  holdings_total None None t e = absurd (true≢false e)

  pub holdings_transitive : (h k l : Option C) (t : ℕ) → holding_before before h k t ≡ true → holding_before before k l t ≡ true → holding_before before h l t ≡ true
  holdings_transitive (Some c) (Some d) (Some e) t p q = ordered.transitive c d e t p q
  holdings_transitive None (Some d) (Some e) t p q = p
  holdings_transitive (Some c) None (Some e) t p q = absurd (false≢true q)
  holdings_transitive None None (Some e) t p q = q
  holdings_transitive (Some c) k None t p q = refl
  holdings_transitive None k None t p q = refl

  module _ (cards : Cards C) (t : ℕ) where
    -- two slots do not beat each other
    pub beats_one_way : {X : Type 0} (i j : ℕ) → Beats before cards t i j → Beats before cards t j i → X
    beats_one_way i j (p, low) (q, high) =
        ⊎_elim
        (λ below. ⊎_elim (λ above. absurd (omega arith)) (λ not_p. absurd (both_ways _ not_p p)) high)
        (λ not_q. absurd (both_ways _ not_q q))
        low

    -- of two slots the lower wins exactly if it is at or before the other
    pub lower_wins : (i j : ℕ) → i < j → slot_before before cards i j t ≡ true → Beats before cards t i j
    lower_wins i j below p = (p, inl below)

    pub higher_wins : (i j : ℕ) → slot_before before cards i j t ≡ false → Beats before cards t j i
    higher_wins i j p = (holdings_total (cards i) (cards j) t p, inr p)

    -- what is beaten by a slot that the new one beats is beaten by the new one
    overtaken : (b n k : ℕ) → slot_before before cards b n t ≡ false → Beats before cards t b k → Beats before cards t n k
    overtaken b n k p (q, _) = (
      holdings_transitive (cards n) (cards b) (cards k) t (holdings_total (cards b) (cards n) t p) q,
      inr (⊎_elim (λ r. absurd (both_ways _ p (holdings_transitive (cards b) (cards k) (cards n) t q r))) (λ r. r) (cases_Bool (slot_before before cards k n t))),
    )

    module _ (set : SlotSet) where
      pub leader_once : (r q : Option ℕ) → Leader before cards set t r → Leader before cards set t q → r ≡ q
      leader_once None None _ _ = refl
      leader_once None (Some j) none (stands, _) = absurd (none j stands)
      leader_once (Some i) None (stands, _) none = absurd (none i stands)
      leader_once (Some i) (Some j) (here, ahead) (there, ahead') =
          ⊎_elim (λ same. ap Some same)
          (λ apart. beats_one_way i j (ahead j there (λ e. apart (sym e))) (ahead' i here apart))
          (cases_eq i j)

      -- the leader of the slots of the set that are below n
      abbrev Below : ℕ → Option ℕ → Type 0
      Below n None = (k : ℕ) → k < n → Stands cards set k → ⊥
      Below n (Some i) = (i < n) × Stands cards set i × ((k : ℕ) → k < n → Stands cards set k → k ≢ i → Beats before cards t i k)

      at_or_below : {X : Type 0} (k n : ℕ) → k < suc n → (k < n → X) → (k ≡ n → X) → X
      at_or_below k n h below here = ⊎_elim below (λ above. here (omega arith)) (cases_lt k n)

      passed : (n : ℕ) (r : Option ℕ) → (Stands cards set n → ⊥) → Below n r → Below (suc n) r
      passed n None empty none = λ k h stands. at_or_below k n h (λ below. none k below stands) (λ e. empty (subst (Stands cards set) e stands))
      passed n (Some i) empty (low, stands, ahead) = (
        omega arith,
        stands,
        λ k h there apart. at_or_below k n h (λ below. ahead k below there apart) (λ e. absurd (empty (subst (Stands cards set) e there))),
      )

      joined : (n : ℕ) (r : Option ℕ) → Stands cards set n → Below n r → Below (suc n) (succeeding before cards t r n)
      joined n None stands none = (omega arith, stands, λ k h there apart. at_or_below k n h (λ below. absurd (none k below there)) (λ e. absurd (apart e)))
      joined n (Some b) stands (low, here, ahead) = by_test (slot_before before cards b n t) refl
        where
          by_test : (x : Bool) → slot_before before cards b n t ≡ x → Below (suc n) (cond x (Some b) (Some n))
          by_test true e = (
            omega arith,
            here,
            λ k h there apart. at_or_below k n h (λ below. ahead k below there apart) (λ is. rw is (lower_wins b n low e)),
          )
          by_test false e = (
            omega arith,
            stands,
            λ k h there apart. at_or_below k n h
                (λ below. ⊎_elim (λ is. rw is (higher_wins b n e)) (λ other. overtaken b n k e (ahead k below there other)) (cases_eq k b))
                (λ is. absurd (apart is)),
          )

      one_more : (n : ℕ) (r : Option ℕ) → n < 256 → Below n r → Below (suc n) (going_on before cards set t n r)
      one_more n r slot so_far = by_test (set n && is_some (cards n)) refl
        where
          by_test : (x : Bool) → (set n && is_some (cards n)) ≡ x → Below (suc n) (cond x (succeeding before cards t r n) r)
          by_test true e = joined n r (slot, (and_parts _ _ e).0, (and_parts _ _ e).1) so_far
          by_test false e = passed n r (λ stands. both_ways _ e (and_from _ _ stands.1 stands.2)) so_far

      leads_below : (n : ℕ) → n ≤ 256 → Below n (leader_below before cards set t n)
      unfolding leader_below
      leads_below zero _ = λ k h. absurd (omega arith)
      leads_below (suc n) h = one_more n (leader_below before cards set t n) h (leads_below n (omega arith))

      whole : (r : Option ℕ) → Below 256 r → Leader before cards set t r
      whole None none = λ k stands. none k stands.0 stands
      whole (Some i) (_, stands, ahead) = (stands, λ k there apart. ahead k there.0 there apart)

      pub leader_exists : Leader before cards set t (leader_of before cards set t)
      unfolding leader_of
      leader_exists = whole (leader_below before cards set t 256) (leads_below 256 (omega arith))
