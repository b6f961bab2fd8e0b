-- Hoppers that are set up one after the other.
use Rattle.std.proofs.Common.{◌≡◌, ℕ, zero, suc, ◌+◌, ◌<◌, List, [], ◌∷◌, ◌++◌, length, get_or, take, refl, subst, arith}
use Rattle.family.specs.Slots.{Cards}
use Rattle.hoppers.specs.declared.hopper.Hopper.{Hopper}
use Rattle.fullest.specs.Placing.{Placing, SetUp}
use Rattle.fullest.specs.declared.reading.Reading.{Reading}
use Rattle.fullest.specs.declared.reading.Attempt.{Attempt}

pub one_more_tried : (cards mid after : Cards Hopper) (xs : List Reading) (i : ℕ) (d : Reading) (tried : List Attempt) (a : Attempt) → SetUp cards (take i xs) tried mid → i < length xs
    → a.reading ≡ get_or xs i d → Placing mid (get_or xs i d) a.answer after → SetUp cards (take (i + 1) xs) (tried ++ a ∷ []) after
one_more_tried cards mid after [] i d tried a _ below is placing = absurd (omega arith)
one_more_tried cards mid after (x ∷ xs) zero d [] a same below is placing =
    (after, is, subst (λ (from : Cards Hopper). Placing from x a.answer after) same placing, refl)
one_more_tried cards mid after (x ∷ xs) zero d (b ∷ bs) a none below is placing = absurd none
one_more_tried cards mid after (x ∷ xs) (suc i) d [] a none below is placing = absurd none
one_more_tried cards mid after (x ∷ xs) (suc i) d (b ∷ bs) a (next, was, placed, rest) below is placing =
    let on : suc i + 1 ≡ suc (i + 1) = omega arith in rw on (next, was, placed, one_more_tried next mid after xs i d bs a rest (omega arith) is placing)
