-- Stretches that are told one after the other make a chart.
use Rattle.std.proofs.Common.{◌≡◌, ℕ, ◌+◌, ◌≤◌, ◌⊎◌, List, [], ◌∷◌, ℤ, Some, None, Option, is_some, true, sym, refl, ap, ◌∙◌, subst, inl, inr, ⊎_elim, arith}
use Rattle.std.proofs.lemmas.Bool.{false≢true}
use Rattle.std.specs.List.{AllByRecursion}
use Rattle.std.specs.Iterator.{Yields, DrainsIf}
use Rattle.family.specs.Order.{last_time, Order}
use Rattle.family.specs.Slots.{Cards}
use Rattle.family.specs.Amounts.{Amount, amount_of}
use Rattle.envelope.specs.Lead.{every_slot, NoneStands}
use Rattle.fullest.specs.Stretches.{Following, Leading, Chart, Told}
use Rattle.fullest.specs.declared.stretch.PricedStretch.{PricedStretch}

-- a card that stands has an amount
pub has_amount : {C X : Type 0} (amount : Amount C) (h : Option C) (t : ℕ) (r : Option ℤ) → is_some h ≡ true → r ≡ amount_of amount h t → r ≡ None → X
has_amount amount (Some c) t r _ is none = absurd (false≢true (sym (ap is_some none) ∙ ap is_some is))
has_amount amount None t r filled _ _ = absurd (false≢true filled)

module _ {C F S : Type 0} (before : F → Order C) (cards : F → Cards C) (amount : F → Amount C) (family : S → F) (first : S → ℕ) where
  -- a turn keeps the family and tells the next stretch
  abbrev Turn : S → Option PricedStretch → S → Type 0
  Turn s r t = (family t ≡ family s) × Told (before (family s)) (cards (family s)) (amount (family s)) (first s) r (first t)

  module _ (f : F) where
    abbrev LeadsIn : PricedStretch → Type 0
    LeadsIn = Leading (before f) (cards f) (amount f)

    told : (s t u : S) (ss : List PricedStretch) → Yields Turn s ss t → Turn t None u → family s ≡ f → first s ≤ last_time + 1
        → AllByRecursion LeadsIn ss × (Following (first s) ss (last_time + 1) ⊎ NoneStands (cards f) every_slot)
    told s t u [] here (_, over) is upto = (
      tt,
      ⊎_elim (λ past. let at : first s ≡ first t = ap first here in inl (omega arith)) (λ none. inr (subst (λ h. NoneStands (cards h) every_slot) (ap family (sym here) ∙ is) none)) over,
    )
    told s t u (x ∷ xs) (j, (same, (from, leads, next)), later) over is upto =
        let leads' : LeadsIn x = subst (λ h. Leading (before h) (cards h) (amount h) x) is leads in
        let (all, end) = told j t u xs later over (same ∙ is) (omega (arith, next, leads.0.1)) in
        ((leads', all), ⊎_elim (λ follows. inl (from, rw next at follows)) (λ none. inr none) end)

    charted : (ss : List PricedStretch) → AllByRecursion LeadsIn ss → Following 0 ss (last_time + 1) ⊎ NoneStands (cards f) every_slot → Chart (before f) (cards f) (amount f) ss
    charted [] all (inr none) = inl (refl, none)
    charted (s ∷ ss) all (inr none) = let (on, _, leads, _) = all.0.0 in absurd (none s.stretch.slot (leads s.stretch.first (omega arith) on).0)
    charted ss all (inl follows) = inr (follows, all)

  pub chart_of : (s : S) (ss : List PricedStretch) → DrainsIf Turn (Unit {0}) s ss → first s ≡ 0 → Chart (before (family s)) (cards (family s)) (amount (family s)) ss
  chart_of s ss (t, yields, last) start =
      let (u, over) = last tt in
      let (all, end) = told (family s) s t u ss yields over refl (omega arith) in
      charted (family s) ss all (rw start at end)
