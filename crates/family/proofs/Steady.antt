-- Amounts whose difference never falls or never rises trade places at most once; with one turning time,
-- at most twice.
use Rattle.std.proofs.Common.{◌≡◌, ℕ, zero, suc, ◌+◌, ◌-◌, ◌<◌, ◌≤◌, Bool, true, false, not, [], ◌∷◌, ℤ, ◌-ℤ◌, ◌≤ℤ◌, sym, inl, inr, ⊎_elim, add-zero, add-suc, arith}
use borrow.Author.Differences.{ints}
use Rattle.std.proofs.lemmas.Bool.{cases_lt}
use Rattle.family.specs.Order.{clamp, fact, FewChanges}
use Rattle.family.specs.Amounts.{Amount, by_amount, NeverFalls, NeverRises, Steady, Turning}
use Rattle.family.proofs.Change.{LastsIn, two_changes_clash}

-- a time is read as one from a to b
abbrev pub Within : ℕ → ℕ → ℕ → Type 0
Within a b t = (a ≤ clamp t) × (clamp t ≤ b)

module _ {C : Type 0} (amount : Amount C) (c d : C) where
  -- where the difference is steady, the fact changes one way only
  pub lasts : (a b : ℕ) → Steady (λ t. amount c t -ℤ amount d t) a b → (x : Bool) × LastsIn (Within a b) x (fact (by_amount amount) c d)
  lasts a b steady =
      ⊎_elim
      (λ never. (
        false,
        λ t u in_t in_u upto h.
            let k : (amount c (clamp t) -ℤ amount d (clamp t)) ≤ℤ (amount c (clamp u) -ℤ amount d (clamp u)) =
            never (clamp t) (clamp u) in_t.0 (omega arith) in_u.1 in
            sym (omega (arith, ints)),
      ))
      (λ never. (
        true,
        λ t u in_t in_u upto h.
            let k : (amount c (clamp u) -ℤ amount d (clamp u)) ≤ℤ (amount c (clamp t) -ℤ amount d (clamp t)) =
            never (clamp t) (clamp u) in_t.0 (omega arith) in_u.1 in
            sym (omega (arith, ints)),
      ))
      steady

  -- so two changes of the fact do not lie in one part
  apart : {X : Type 0} (a b : ℕ) → Steady (λ t. amount c t -ℤ amount d t) a b → (t u : ℕ) → 0 < t → t < u
      → Within a b (t - 1) → Within a b t → Within a b (u - 1) → Within a b u
      → fact (by_amount amount) c d t ≡ not (fact (by_amount amount) c d (t - 1))
      → fact (by_amount amount) c d u ≡ not (fact (by_amount amount) c d (u - 1)) → X
  apart a b steady t u = let l = lasts a b steady in two_changes_clash (Within a b) l.0 _ l.1 t u

-- what each step keeps, any number of steps keep: an order that is so from each time to the next is so throughout
by_steps : (R : ℤ → ℤ → Type 0) → ((x : ℤ) → R x x) → ((x y z : ℤ) → R x y → R y z → R x z) → (g : ℕ → ℤ) (t n : ℕ)
    → ((k : ℕ) → t ≤ k → k < t + n → R (g k) (g (suc k))) → R (g t) (g (t + n))
by_steps R level on g t zero _ = rw add-zero (level (g t))
by_steps R level on g t (suc n) step =
    rw add-suc (on _ _ _ (by_steps R level on g t n (λ k a b. step k a (omega arith))) (step (t + n) (omega arith) (omega arith)))

pub never_falls_by_steps : (g : ℕ → ℤ) (a b : ℕ) → ((k : ℕ) → a ≤ k → k < b → g k ≤ℤ g (suc k)) → NeverFalls g a b
never_falls_by_steps g a b step t u from on upto =
    let e : u ≡ t + (u - t) = omega arith in
    rw e (by_steps (λ x y. x ≤ℤ y) (λ x. omega (arith, ints)) (λ x y z p q. omega (arith, ints)) g t (u - t) (λ k p q. step k (omega arith) (omega arith)))

pub never_rises_by_steps : (g : ℕ → ℤ) (a b : ℕ) → ((k : ℕ) → a ≤ k → k < b → g (suc k) ≤ℤ g k) → NeverRises g a b
never_rises_by_steps g a b step t u from on upto =
    let e : u ≡ t + (u - t) = omega arith in
    rw e (by_steps (λ x y. y ≤ℤ x) (λ x. omega (arith, ints)) (λ x y z p q. omega (arith, ints)) g t (u - t) (λ k p q. step k (omega arith) (omega arith)))

-- what is steady stays so under another name
pub steady_alike : (g h : ℕ → ℤ) (a b : ℕ) → ((t : ℕ) → g t ≡ h t) → Steady g a b → Steady h a b
steady_alike g h a b same =
    ⊎_elim
    (λ never. inl (λ t u p q r. omega (arith, ints, never t u p q r, same t, same u)))
    (λ never. inr (λ t u p q r. omega (arith, ints, never t u p q r, same t, same u)))

-- at one time alone everything is steady
pub steady_point : (g : ℕ → ℤ) (a : ℕ) → Steady g a a
steady_point g a = inl (never_falls_by_steps g a a (λ k from upto. absurd (omega arith)))

pub few_if_steady : {C : Type 0} (amount : Amount C) → ((c d : C) → Steady (λ t. amount c t -ℤ amount d t) 0 1000000) → FewChanges 1 (by_amount amount)
few_if_steady amount steady c d [] _ = omega arith
few_if_steady amount steady c d (t ∷ []) _ = omega arith
few_if_steady amount steady c d (t ∷ u ∷ us) (some, at_t, (above, at_u, _)) =
    apart amount c d 0 1000000 (steady c d) t u some above
    (omega arith, omega arith) (omega arith, omega arith) (omega arith, omega arith) (omega arith, omega arith) at_t at_u

-- for card sorts that know a turning time, and for families that are made of a turning family
pub few_if_turning : {C : Type 0} (amount : Amount C) → Turning amount → FewChanges 2 (by_amount amount)
few_if_turning amount turning c d [] _ = omega arith
few_if_turning amount turning c d (t ∷ []) _ = omega arith
few_if_turning amount turning c d (t ∷ u ∷ []) _ = omega arith
few_if_turning amount turning c d (t ∷ u ∷ v ∷ vs) (some, at_t, (above, at_u, (on, at_v, _))) =
    let m = (turning c d).0 in
    let early : m ≤ 1000000 = (turning c d).1.0 in
    ⊎_elim
    (λ late.
    apart amount c d m 1000000 (turning c d).1.2 u v (omega arith) on
    (omega arith, omega arith) (omega arith, omega arith) (omega arith, omega arith) (omega arith, omega arith) at_u at_v)
    (λ soon.
    apart amount c d 0 m (turning c d).1.1 t u some above
    (omega arith, omega arith) (omega arith, omega arith) (omega arith, omega arith) (omega arith, omega arith) at_t at_u)
    (cases_lt m u)
