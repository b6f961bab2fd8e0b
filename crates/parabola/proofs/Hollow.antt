-- The height changes its sign where half the slope comes into reach of 0 or leaves it.
use Rattle.std.proofs.Common.{◌≡◌, ℕ, true, false, not, ℤ, pos, Some, Option, sym, ap, ◌∙◌, arith}
use mathlib.Core.Bool.{not-not}
use lib.Signed.{lt_z}
use borrow.Author.Differences.{ints}
use Rattle.std.proofs.lemmas.Int.{by_lt_z}
use Rattle.std.proofs.lemmas.Bool.{cond-true, cond-false}
use Rattle.family.specs.Order.{FirstChange}
use Rattle.family.proofs.Change.{first_change_alike, first_change_opposite}
use Rattle.parabola.specs.declared.curve.Parabola.{Parabola}
use Rattle.parabola.specs.Height.{not_below}
use Rattle.parabola.specs.Reach.{in_reach}
use Rattle.parabola.specs.Slope.{half_slope_of, in_hollow, ReachOf}

-- the height enters or leaves the hollow where it changes its sign
by_hollow : (p : Parabola) (from end : ℕ) (r : Option ℕ) → FirstChange (in_hollow p) from end r → FirstChange (not_below p) from end r
by_hollow p from end r first =
    by_lt_z (pos 0) p.bend
    (λ above.
    let opens : lt_z (pos 0) p.bend ≡ true = sym (omega (arith, ints)) in
    first_change_alike _ (not_below p) from end r
    (λ u _ _. ap not (cond-true (lt_z (pos 0) p.bend) (not (not_below p u)) (not_below p u) opens) ∙ not-not (not_below p u))
    (first_change_opposite (in_hollow p) from end r first))
    (λ upto.
    let opens : lt_z (pos 0) p.bend ≡ false = sym (omega (arith, ints)) in
    first_change_alike (in_hollow p) (not_below p) from end r
    (λ u _ _. cond-false (lt_z (pos 0) p.bend) (not (not_below p u)) (not_below p u) opens)
    first)

pub by_reach : (p : Parabola) (slope : ℕ → ℤ) (reach from end : ℕ) (r : Option ℕ) → ReachOf p (Some reach) → ((t : ℕ) → slope t ≡ half_slope_of p t)
    → FirstChange (λ u. in_reach reach (slope u)) from end r → FirstChange (not_below p) from end r
by_reach p slope reach from end r tells is first =
    by_hollow p from end r (first_change_alike _ (in_hollow p) from end r (λ u _ _. ap (in_reach reach) (is u) ∙ sym (tells u)) first)
