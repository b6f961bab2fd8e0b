-- Two courses that rise by a rate of their own until a cap, and where their difference turns.
use Rattle.std.specs.Prelude.{◌≡◌, ℕ, suc, ◌+◌, ◌<◌, ◌≤◌, min, ℤ, pos, ◌-ℤ◌, ◌≤ℤ◌}
use Rattle.std.proofs.Common.{inl, inr, ⊎_elim, arith}
use Rattle.std.proofs.lemmas.Int.{ints}
use Rattle.std.proofs.lemmas.Bool.{cases_lt}
use Rattle.family.specs.Order.{last_time}
use Rattle.family.specs.Amounts.{NeverFalls, NeverRises, Steady}
use Rattle.family.proofs.Steady.{never_falls_by_steps, never_rises_by_steps}

-- it rises by the rate up to the time before the cap, stands still from the cap on, and at no step rises by more than the rate
pub record Course (x : ℕ → ℕ) (rate cap : ℕ) : Type 0 where
  pub full : (t : ℕ) → suc t < cap → x (suc t) ≡ x t + rate
  pub still : (t : ℕ) → cap ≤ t → t < last_time → x (suc t) ≡ x t
  pub up : (t : ℕ) → x t ≤ x (suc t)
  pub most : (t : ℕ) → x (suc t) ≤ x t + rate

module _ {x y : ℕ → ℕ} {b e i j : ℕ} (cx : Course x b i) (cy : Course y e j) where
  abbrev gap : ℕ → ℤ
  gap t = pos (x t) -ℤ pos (y t)

  rises : (t : ℕ) → x t + y (suc t) ≤ x (suc t) + y t → gap t ≤ℤ gap (suc t)
  rises t h = omega (arith, ints)

  falls : (t : ℕ) → x (suc t) + y t ≤ x t + y (suc t) → gap (suc t) ≤ℤ gap t
  falls t h = omega (arith, ints)

  -- from its cap on the one stands still, and the other does not fall
  after_first : (a : ℕ) → i ≤ a → NeverRises gap a last_time
  after_first a on = never_rises_by_steps gap a last_time (λ k from upto. falls k (omega (arith, cx.still k (omega arith) upto, cy.up k)))

  after_second : (a : ℕ) → j ≤ a → NeverFalls gap a last_time
  after_second a on = never_falls_by_steps gap a last_time (λ k from upto. rises k (omega (arith, cy.still k (omega arith) upto, cx.up k)))

  -- before either cap the difference moves by that of the rates
  before_both : (a : ℕ) → a < i → a < j → Steady gap 0 a
  before_both a below_i below_j =
      ⊎_elim
      (λ slower. inr (never_rises_by_steps gap 0 a (λ k _ upto. falls k (omega (arith, cx.full k (omega arith), cy.full k (omega arith))))))
      (λ faster. inl (never_falls_by_steps gap 0 a (λ k _ upto. rises k (omega (arith, cx.full k (omega arith), cy.full k (omega arith))))))
      (cases_lt b e)

  pub from_first_cap : (m : ℕ) → m ≡ min i j → Steady gap m last_time
  from_first_cap m is =
      ⊎_elim (λ sooner. inl (after_second m (omega arith))) (λ upto. inr (after_first m (omega arith))) (cases_lt j i)

  -- m is the time before the first cap, and by the step to the cap the difference moves on as before it
  module _ (m : ℕ) (is : suc m ≡ min i j) where
    pub to_first_cap : (b < e → x (suc m) + y m ≤ x m + y (suc m)) → (e < b → x m + y (suc m) ≤ x (suc m) + y m) → Steady gap 0 (suc m)
    to_first_cap slow fast =
        ⊎_elim
        (λ slower. inr (falling (omega arith) (slow slower)))
        (λ upto. ⊎_elim
        (λ faster. inl (rising (omega arith) (fast faster)))
        (λ on. ⊎_elim
        (λ down. inr (falling (omega arith) (omega arith)))
        (λ level. inl (rising (omega arith) level))
        (cases_lt (x (suc m) + y m) (x m + y (suc m))))
        (cases_lt e b))
        (cases_lt b e)
      where
        falling : b ≤ e → x (suc m) + y m ≤ x m + y (suc m) → NeverRises gap 0 (suc m)
        falling slower last = never_rises_by_steps gap 0 (suc m) (λ k _ upto.
            ⊎_elim
            (λ early. falls k (omega (arith, cx.full k (omega arith), cy.full k (omega arith))))
            (λ late. let there : k ≡ m = omega arith in rw there (falls m last))
            (cases_lt k m))

        rising : e ≤ b → x m + y (suc m) ≤ x (suc m) + y m → NeverFalls gap 0 (suc m)
        rising faster last = never_falls_by_steps gap 0 (suc m) (λ k _ upto.
            ⊎_elim
            (λ early. rises k (omega (arith, cx.full k (omega arith), cy.full k (omega arith))))
            (λ late. let there : k ≡ m = omega arith in rw there (rises m last))
            (cases_lt k m))

    -- or else it turns there, and goes on as it does from the cap on
    pub until_before_cap : Steady gap 0 m
    until_before_cap = before_both m (omega arith) (omega arith)

    pub down_from_before_cap : e < b → x (suc m) + y m ≤ x m + y (suc m) → Steady gap m last_time
    down_from_before_cap faster down = inr (never_rises_by_steps gap m last_time (λ k from upto.
        ⊎_elim
        (λ late. falls k (omega (arith, cx.still k (omega (arith, first_capped faster down)) upto, cy.up k)))
        (λ there. let e : k ≡ m = omega arith in rw e (falls m down))
        (cases_lt m k)))
      where
        -- a first course that were not yet capped would have gone up
        first_capped : e < b → x (suc m) + y m ≤ x m + y (suc m) → i ≤ suc m
        first_capped faster down = ⊎_elim (λ open_yet. absurd (omega (arith, cx.full m open_yet, cy.most m))) (λ h. h) (cases_lt (suc m) i)

    pub up_from_before_cap : b < e → x m + y (suc m) ≤ x (suc m) + y m → Steady gap m last_time
    up_from_before_cap slower up = inl (never_falls_by_steps gap m last_time (λ k from upto.
        ⊎_elim
        (λ late. rises k (omega (arith, cy.still k (omega (arith, second_capped slower up)) upto, cx.up k)))
        (λ there. let e : k ≡ m = omega arith in rw e (rises m up))
        (cases_lt m k)))
      where
        second_capped : b < e → x m + y (suc m) ≤ x (suc m) + y m → j ≤ suc m
        second_capped slower up = ⊎_elim (λ open_yet. absurd (omega (arith, cy.full m open_yet, cx.most m))) (λ h. h) (cases_lt (suc m) j)
