-- What chains over all slots give.
use Rattle.std.proofs.Common.{◌≡◌, ℕ, zero, suc, ◌+◌, ◌<◌, ◌≤◌, Bool, true, false, cond, is_some, List, [], ◌∷◌, ◌++◌, map, append-nil, Some, None, Option, MatchOption, IsSomeAnd, IfSome, unwrap_or, sym, refl, ap, ◌∙◌, subst, rules, tests, arith}
use Rattle.std.specs.Iterator.{ActsAsOnTwo}
use Rattle.std.specs.Iterator.Runs.{Run, AnyItem, AllItems, RelatesRuns, IsReduceRun}
use Rattle.std.specs.List.{filter, fold, reduce, range_with_len}
use Rattle.std.specs.Ordering.{nat_cmp, is_lt}
use Rattle.std.specs.Range.{range_inclusive_start, range_inclusive_end, range_inclusive_exhausted}
use Rattle.std.proofs.iter.runs.Sources.{nat_range_inclusive_steps, inclusive_listed}
use Rattle.std.proofs.lemmas.Iterator.Adapters.{option_map_id}
use Rattle.std.proofs.lemmas.List.{nil_from_length}
use Rattle.std.proofs.lemmas.List.Sums.{fold-append}
use Rattle.std.proofs.lemmas.List.FromFn.{fill_by_all, filter_of_map_range_with_len_more}
use Rattle.family.specs.Order.{Order}
use Rattle.family.specs.Slots.{Cards, slot_before}
use Rattle.envelope.specs.Lead.{every_slot, succeeding, going_on, leader_below}
use denote.Param.Members.{Mut}

-- a whole run of 0..=last gives each number below n in its turn
module _ (q : Run nat_range_inclusive_steps) (n : ℕ) (first : range_inclusive_start q.from ≡ 0) (last : range_inclusive_end q.from + 1 ≡ n)
    (fresh : range_inclusive_exhausted q.from ≡ false) (whole : q.whole ≡ true) where
  pub counts : (q.len ≡ n) × ((k : ℕ) → k < n → q.at k ≡ Some k)
  counts =
      let (a, b, from, to, up) = inclusive_listed q q.seen in
      let len : q.len ≡ n = omega (arith, (up fresh).0.1 whole) in
      (len, λ k below. let at : a + k ≡ k = omega arith in sym (option_map_id (q.at k)) ∙ rw at at ((up fresh).0.3 k (omega arith)))

  pub counted : q.items ≡ map (λ k. k) (range_with_len 0 n)
  counted =
      fill_by_all (λ k. k) q.items n 0 (omega (arith, q.long, counts.0))
      (λ k below. ap (λ o. unwrap_or o 0) (sym (q.reads k 0 (omega (arith, counts.0))) ∙ option_map_id (q.at k) ∙ counts.1 k below))

-- what `reduce` gives
pub reduced : {S A F : Type 0} {steps : S → Option A → S → Type 0} (p : Run steps) (g : Mut F (A × (A × Unit {0})) A) (f : F) (h : A → A → A) (r : Option A)
    → ActsAsOnTwo g f h → MatchOption r (p.len ≡ 0) (IsReduceRun p g f) → r ≡ reduce h p.items
reduced p g f h None acts none = rw (nil_from_length p.items (omega (arith, p.long))) refl
reduced p g f h (Some y) acts (some, (x, xs, are, is)) = rw are (ap Some (is h acts))

-- The leader of all slots, told by a chain: each slot that holds a card overtakes the leader before it or not.
module _ {C : Type 0} (before : Order C) (cards : Cards C) (t : ℕ) where
  abbrev pub leading : ℕ → ℕ → ℕ
  leading b k = cond (slot_before before cards b k t) b k

  abbrev pub standing : ℕ → Bool
  standing k = is_some (cards k)

  one_stands : (ks : List ℕ) (k : ℕ) → reduce leading (ks ++ k ∷ []) ≡ succeeding before cards t (reduce leading ks) k
  one_stands [] k = refl
  one_stands (b ∷ ks) k = ap Some (fold-append leading b ks (k ∷ [])) ∙ by_test (fold leading b ks) (slot_before before cards (fold leading b ks) k t)
    where
      by_test : (best : ℕ) (x : Bool) → Some (cond x best k) ≡ cond x (Some best) (Some k)
      by_test best true = refl
      by_test best false = refl

  one_more : (ks : List ℕ) (k : ℕ) (r : Option ℕ) → reduce leading ks ≡ r → reduce leading (ks ++ cond (standing k) (k ∷ []) []) ≡ going_on before cards every_slot t k r
  one_more ks k r e = by_test (standing k)
    where
      by_test : (x : Bool) → reduce leading (ks ++ cond x (k ∷ []) []) ≡ cond x (succeeding before cards t r k) r
      by_test true = rw (← e) (one_stands ks k)
      by_test false = rw append-nil e

  pub led_by_chain : (n : ℕ) → reduce leading (filter standing (map (λ k. k) (range_with_len 0 n))) ≡ leader_below before cards every_slot t n
  unfolding leader_below
  led_by_chain zero = refl
  led_by_chain (suc n) =
      let on : suc n ≡ n + 1 = omega arith in
      let slots : ℕ → List ℕ = λ m. filter standing (map (λ k. k) (range_with_len 0 m)) in
      ap (λ m. reduce leading (slots m)) on
      ∙ ap (reduce leading) (filter_of_map_range_with_len_more standing (λ k. k) 0 n n (omega arith))
      ∙ one_more (slots n) n (leader_below before cards every_slot t n) (led_by_chain n)

-- `map` and then `min`, where R, and so Q, holds of each slot and what it is mapped to: the least is one of these, and none is less
module _ {S T : Type 0} {steps : S → Option ℕ → S → Type 0} {source : T → Option ℕ → T → Type 0} (p : Run steps) (q : Run source) (R Q : ℕ → ℕ → Type 0) (n : ℕ) where
  both : (o : Option ℕ) (A B : ℕ → Type 0) → IsSomeAnd o A → IfSome o B → (y : ℕ) × A y × B y
  both None A B some _ = absurd some
  both (Some y) A B a b = (y, a, b)

  if_some : (o : Option ℕ) (A : ℕ → Type 0) → IsSomeAnd o A → IfSome o A
  if_some None A some = absurd some
  if_some (Some y) A a = a

  not_less : (x m : ℕ) → is_lt (nat_cmp x m) ≡ false → m ≤ x
  not_less x m e = search (rules, tests)

  pub least : (r : Option ℕ) (d : ℕ) → 0 < n → p.len ≡ n → ((k : ℕ) → k < n → q.at k ≡ Some k) → RelatesRuns p q R → ((x y : ℕ) → R x y → Q x y)
      → MatchOption r (p.len ≡ 0) (λ m. AnyItem p (λ x. x ≡ m) × AllItems p (λ x. is_lt (nat_cmp x m) ≡ false))
      → ((k : ℕ) → k < n → (e : ℕ) × Q k e × (unwrap_or r d ≤ e)) × ((k : ℕ) × Q k (unwrap_or r d))
  least None d some len counts relates to none = absurd (omega arith)
  least (Some m) d some len counts relates to ((k, low, is), all) =
      let answer : (j : ℕ) → j < n → IsSomeAnd (p.at j) (R j) =
      λ j below. subst (λ o. IfSome o (λ x. IsSomeAnd (p.at j) (R x))) (counts j below) (relates.0 j) in (
        λ j below. let (e, holds, later) = both (p.at j) (R j) (λ x. is_lt (nat_cmp x m) ≡ false) (answer j below) (all j) in (e, to j e holds, not_less e m later),
        let (e, holds, same) = both (p.at k) (R k) (λ x. x ≡ m) (answer k (omega arith)) (if_some (p.at k) (λ x. x ≡ m) is) in (k, to k m (subst (R k) same holds)),
      )
