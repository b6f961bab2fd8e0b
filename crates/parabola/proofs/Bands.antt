-- A line from a time on, and a band around 0.
use Rattle.std.proofs.Common.{◌≡◌, ℕ, ◌-◌, ◌≤◌, Bool, true, false, leb, ℤ, pos, ◌+ℤ◌, ◌-ℤ◌, neg_ℤ, nat_abs, ◌≤ℤ◌, ◌<ℤ◌, Some, None, Option, sym, refl, ap, ◌∙◌, ⊎_elim, arith}
use Rattle.std.specs.Bool.{then_some}
use lib.Signed.{le_z}
use borrow.Author.Differences.{ints}
use Rattle.std.proofs.lemmas.Bool.{cases_lt}
use Rattle.family.specs.Order.{FirstChange}
use Rattle.family.proofs.Change.{first_change_alike}
use Rattle.crossing.specs.Line.{line, not_negative}
use Rattle.parabola.specs.declared.line.Line.{Line}
use Rattle.parabola.specs.Reach.{in_reach}
use Rattle.crossing.proofs.Ring.{neg_times}
use Rattle.crossing.proofs.Lines.{ahead, times_rises, le_by_gap}

-- what starts at a time from where the line is then goes on as the line does
pub goes_on : (l : Line) (gap drift : ℤ) (from end : ℕ) (r : Option ℕ) → gap ≡ line l.start l.step from → drift ≡ l.step
    → FirstChange (λ u. not_negative gap drift (u - from)) from end r → FirstChange (not_negative l.start l.step) from end r
goes_on l gap drift from end r g d =
    first_change_alike _ _ from end r
    (λ u on _.
    let t = ahead l.start l.step from u on in
    let e : line gap drift (u - from) ≡ line l.start l.step u = rw (g, d) (omega (arith, ints)) in ap (le_z (pos 0)) e)

-- a line, and one that is as far from 0 and never falls
module _ (own l : Line) (up : pos 0 ≤ℤ l.step) (far : (u : ℕ) → nat_abs (line l.start l.step u) ≡ nat_abs (line own.start own.step u))
    (reach from end : ℕ) (gap drift : ℤ) where
  rises : (t u : ℕ) → t ≤ u → line l.start l.step t ≤ℤ line l.start l.step u
  rises t u on = omega (arith, ints, ahead l.start l.step t u on, times_rises l.step (u - t) up)

  as_far : (r : Option ℕ) → FirstChange (λ u. in_reach reach (line l.start l.step u)) from end r
      → FirstChange (λ u. in_reach reach (line own.start own.step u)) from end r
  as_far r = first_change_alike _ _ from end r (λ u _ _. ap (λ n. leb n reach) (far u))

  -- above the band nothing changes
  pub stays_above : pos reach <ℤ line l.start l.step from → FirstChange (λ u. in_reach reach (line own.start own.step u)) from end None
  stays_above over = as_far None (λ u after _. let on = rises from u (omega arith) in grind (arith, ints))

  -- from inside it leaves where it passes the upper edge: what is left to that falls by the step
  pub leaves : (r : Option ℕ) → gap ≡ pos reach -ℤ line l.start l.step from → drift ≡ neg_ℤ l.step → neg_ℤ (pos reach) ≤ℤ line l.start l.step from
      → FirstChange (λ u. not_negative gap drift (u - from)) from end r → FirstChange (λ u. in_reach reach (line own.start own.step u)) from end r
  leaves r g d low first =
      as_far r (first_change_alike _ _ from end r (λ u on _.
      let t = ahead l.start l.step from u on in
      let n = neg_times l.step (pos (u - from)) in
      inside (line l.start l.step u) (line gap drift (u - from)) (rw (g, d) (omega (arith, ints))) (omega (arith, ints, rises from u on)))
      first)
    where
      inside : (z rest : ℤ) → rest ≡ pos reach -ℤ z → neg_ℤ (pos reach) ≤ℤ z → le_z (pos 0) rest ≡ in_reach reach z
      inside z rest e above = grind (arith, ints)

  -- from below it enters where it reaches the lower edge: what is gained on that rises by the step
  module _ (g : gap ≡ line l.start l.step from +ℤ pos reach) (d : drift ≡ l.step) (under : line l.start l.step from <ℤ neg_ℤ (pos reach)) where
    gained : (u : ℕ) → from ≤ u → not_negative gap drift (u - from) ≡ le_z (neg_ℤ (pos reach)) (line l.start l.step u)
    gained u on =
        let t = ahead l.start l.step from u on in
        let e : line gap drift (u - from) ≡ line l.start l.step u -ℤ neg_ℤ (pos reach) = rw (g, d) (omega (arith, ints)) in
        ap (le_z (pos 0)) e ∙ sym (le_by_gap (neg_ℤ (pos reach)) (line l.start l.step u))

    from_lower : (r : Option ℕ) → FirstChange (λ u. not_negative gap drift (u - from)) from end r → FirstChange (λ u. le_z (neg_ℤ (pos reach)) (line l.start l.step u)) from end r
    from_lower r = first_change_alike _ _ from end r (λ u on _. gained u on)

    still_below : (u : ℕ) → le_z (neg_ℤ (pos reach)) (line l.start l.step u) ≡ le_z (neg_ℤ (pos reach)) (line l.start l.step from)
        → in_reach reach (line l.start l.step u) ≡ in_reach reach (line l.start l.step from)
    still_below u same = grind (arith, ints)

    pub stays_below : FirstChange (λ u. not_negative gap drift (u - from)) from end None → FirstChange (λ u. in_reach reach (line own.start own.step u)) from end None
    stays_below first = as_far None (λ u after upto. still_below u (from_lower None first u after upto))

    -- unless it steps over the whole band
    enters_or_not : (u : ℕ) (b : Bool) → b ≡ le_z (line l.start l.step u) (pos reach) → FirstChange (λ u. le_z (neg_ℤ (pos reach)) (line l.start l.step u)) from end (Some u)
        → FirstChange (λ u. in_reach reach (line l.start l.step u)) from end (then_some b u)
    enters_or_not u true upto_edge (after, upto, differs, same) = (after, upto, grind (arith, ints), λ v a b. still_below v (same v a b))
    enters_or_not u false over (after, upto, differs, same) =
        λ v a b.
        ⊎_elim
        (λ sooner. still_below v (same v a sooner))
        (λ later. let on = rises u v later in grind (arith, ints))
        (cases_lt v u)

    pub enters : (r : Option ℕ) (u : ℕ) (x y : ℤ) → r ≡ then_some (le_z x y) u → x ≡ line l.start l.step u → y ≡ pos reach
        → FirstChange (λ u. not_negative gap drift (u - from)) from end (Some u) → FirstChange (λ u. in_reach reach (line own.start own.step u)) from end r
    enters r u x y told p q first = rw (told, p, q) (as_far _ (enters_or_not u _ refl (from_lower (Some u) first)))
