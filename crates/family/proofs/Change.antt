-- Laws of facts that change with time.
use Rattle.std.proofs.Common.{◌≡◌, ℕ, zero, suc, ◌-◌, ◌<◌, ◌≤◌, Bool, not, ◌⊎◌, Some, None, Option, sym, refl, ap, ◌∙◌, ⊎_elim, arith}
use Rattle.std.proofs.lemmas.Bool.{cases_lt}
use Rattle.family.specs.Order.{FirstChange}

-- among the times of a part, once the fact is b, it stays b
abbrev pub LastsIn : (ℕ → Type 0) → Bool → (ℕ → Bool) → Type 0
LastsIn In b p = (t u : ℕ) → In t → In u → t ≤ u → p t ≡ b → p u ≡ b

never_opposite : {X : Type 0} (b : Bool) → b ≡ not b → X
never_opposite b e = absurd (grind arith)

-- after a change, such a fact is b
changed_to : (b x y : Bool) → (x ≡ b → y ≡ b) → y ≡ not x → y ≡ b
changed_to b x y kept e = grind arith

same_between : (b x y z : Bool) → (x ≡ b → y ≡ b) → (y ≡ b → z ≡ b) → z ≡ x → y ≡ x
same_between b x y z from on e = grind arith

-- and then it changes no more: two changes in one part are one too many
pub two_changes_clash : {X : Type 0} (In : ℕ → Type 0) (b : Bool) (p : ℕ → Bool) → LastsIn In b p → (t u : ℕ) → 0 < t → t < u
    → In (t - 1) → In t → In (u - 1) → In u → p t ≡ not (p (t - 1)) → p u ≡ not (p (u - 1)) → X
two_changes_clash In b p lasts t u some above t_before t_in u_before u_in at_t at_u =
    let now_b = changed_to b (p (t - 1)) (p t) (lasts (t - 1) t t_before t_in (omega arith)) at_t in
    let still = lasts t (u - 1) t_in u_before (omega arith) now_b in
    let later = lasts t u t_in u_in (omega arith) now_b in
    never_opposite b (sym later ∙ at_u ∙ ap not still)

-- a fact that is the same at both ends of a part, and changes one way only there, is the same all through
pub constant_between : (In : ℕ → Type 0) (b : Bool) (p : ℕ → Bool) → LastsIn In b p → (t u v : ℕ)
    → In t → In u → In v → t ≤ u → u ≤ v → p v ≡ p t → p u ≡ p t
constant_between In b p lasts t u v t_in u_in v_in on upto ends =
    same_between b (p t) (p u) (p v) (lasts t u t_in u_in on) (lasts u v u_in v_in upto) ends

-- what is said of the first change depends on the fact from the start to the end alone
pub first_change_alike : (p q : ℕ → Bool) (t end : ℕ) (r : Option ℕ) → ((u : ℕ) → t ≤ u → u ≤ end → p u ≡ q u)
    → FirstChange p t end r → FirstChange q t end r
first_change_alike p q t end None alike first =
    λ u above upto. sym (alike u (omega arith) upto) ∙ first u above upto ∙ alike t (omega arith) (omega arith)
first_change_alike p q t end (Some w) alike (above, upto, differs, same) =
    let start = alike t (omega arith) (omega arith) in (
      above,
      upto,
      sym (alike w (omega arith) upto) ∙ differs ∙ ap not start,
      λ v a b. sym (alike v (omega arith) (omega arith)) ∙ same v a b ∙ start,
    )

-- a fact and its opposite change at the same times
pub first_change_opposite : (p : ℕ → Bool) (t end : ℕ) (r : Option ℕ) → FirstChange p t end r → FirstChange (λ u. not (p u)) t end r
first_change_opposite p t end None first = λ u above upto. ap not (first u above upto)
first_change_opposite p t end (Some w) (above, upto, differs, same) = (above, upto, ap not differs, λ v a b. ap not (same v a b))

-- a first change up to a time is that up to any later time
pub first_change_upto : (p : ℕ → Bool) (t middle end w : ℕ) → middle ≤ end → FirstChange p t middle (Some w) → FirstChange p t end (Some w)
first_change_upto p t middle end w on (above, upto, differs, same) = (above, omega arith, differs, same)

-- while nothing changes up to a time, the first change from there is that from the start
unchanged_upto : (p : ℕ → Bool) (t middle : ℕ) → FirstChange p t middle None → (u : ℕ) → t ≤ u → u ≤ middle → p u ≡ p t
unchanged_upto p t middle none u from upto =
    ⊎_elim (λ later. none u later upto) (λ level. ap p (omega arith)) (cases_lt t u)

pub first_change_from : (p : ℕ → Bool) (t middle end : ℕ) (r : Option ℕ) → t ≤ middle → FirstChange p t middle None
    → FirstChange p middle end r → FirstChange p t end r
first_change_from p t middle end None on none first =
    λ u above upto.
    ⊎_elim
    (λ later. first u later upto ∙ unchanged_upto p t middle none middle on (omega arith))
    (λ sooner. none u above sooner)
    (cases_lt middle u)
first_change_from p t middle end (Some w) on none (above, upto, differs, same) =
    let there = unchanged_upto p t middle none middle on (omega arith) in (
      omega arith,
      upto,
      differs ∙ ap not there,
      λ v a b. ⊎_elim (λ later. same v later b ∙ there) (λ sooner. none v a sooner) (cases_lt middle v),
    )

-- there is one first change and no other: whoever tells it tells the same
pub first_change_once : (p : ℕ → Bool) (t end : ℕ) (r s : Option ℕ) → FirstChange p t end r → FirstChange p t end s → r ≡ s
first_change_once p t end None None _ _ = refl
first_change_once p t end None (Some w) none (above, upto, differs, _) = never_opposite (p t) (sym (none w above upto) ∙ differs)
first_change_once p t end (Some w) None (above, upto, differs, _) none = never_opposite (p t) (sym (none w above upto) ∙ differs)
first_change_once p t end (Some v) (Some w) (v_above, v_upto, v_differs, v_same) (w_above, w_upto, w_differs, w_same) =
    ⊎_elim
    (λ sooner. never_opposite (p t) (sym (w_same v v_above sooner) ∙ v_differs))
    (λ upto.
    ⊎_elim
    (λ sooner. never_opposite (p t) (sym (v_same w w_above sooner) ∙ w_differs))
    (λ on. ap Some (omega arith))
    (cases_lt w v))
    (cases_lt v w)

-- and there always is one, or none is told for sure
same_or_opposite : (x y : Bool) → (x ≡ y) ⊎ (x ≡ not y)
same_or_opposite x y = grind arith

one_time_more : (p : ℕ → Bool) (t n : ℕ) (r : Option ℕ) → FirstChange p t n r → (s : Option ℕ) × FirstChange p t (suc n) s
one_time_more p t n (Some w) first = (Some w, first_change_upto p t n (suc n) w (omega arith) first)
one_time_more p t n None same =
    ⊎_elim
    (λ level. (None, λ u above upto. ⊎_elim (λ early. same u above (omega arith)) (λ late. let e : u ≡ suc n = omega arith in rw e level) (cases_lt u (suc n))))
    (λ differs. ⊎_elim
    (λ later. (Some (suc n), (later, omega arith, differs, λ v above below. same v above (omega arith))))
    (λ past. (None, λ u above upto. absurd (omega arith)))
    (cases_lt t (suc n)))
    (same_or_opposite (p (suc n)) (p t))

pub first_change_exists : (p : ℕ → Bool) (t end : ℕ) → (r : Option ℕ) × FirstChange p t end r
first_change_exists p t zero = (None, λ u above upto. absurd (omega arith))
first_change_exists p t (suc n) = let so_far = first_change_exists p t n in one_time_more p t n so_far.0 so_far.1
