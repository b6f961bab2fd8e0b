-- The exchange of the same two cards in the same order is one answer.
use Rattle.std.proofs.Common.{◌≡◌, ℕ, Option, sym}
use Rattle.family.specs.Order.{Order, clamp, NextChange}
use Rattle.family.specs.Slots.{Cards, slot_before}
use Rattle.family.specs.Amounts.{Amount, OrderedBy, by_amount}
use Rattle.family.proofs.Holdings.{holdings_alike}
use Rattle.family.proofs.Change.{first_change_alike, first_change_once}

pub one_answer : {C : Type 0} (before : Order C) (amount : Amount C) (cards others : Cards C) (i j t end : ℕ) (r s : Option ℕ)
    → NextChange (slot_before before cards i j) t end r → NextChange (slot_before (by_amount amount) others i j) t end s
    → OrderedBy before amount → cards i ≡ others i → cards j ≡ others j → r ≡ s
one_answer before amount cards others i j t end r s first second ordered at_i at_j =
    let alike : (u : ℕ) → slot_before (by_amount amount) others i j u ≡ slot_before before cards i j u =
    λ u. cc (holdings_alike (by_amount amount) before u u (λ c d. sym (ordered c d u)) (others i) (others j)) in
    first_change_once (slot_before before cards i j) (clamp t) (clamp end) r s first
    (first_change_alike _ _ (clamp t) (clamp end) s (λ u _ _. alike u) second)
