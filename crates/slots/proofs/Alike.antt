-- A list that holds one thing throughout holds it at every index, if it is the default too.
use Rattle.std.proofs.Common.{◌≡◌, ℕ, get_or, replicate, ⊎_elim}
use lib.ListN.{length-replicate}
use Rattle.std.proofs.lemmas.List.{get_or-replicate, get_or_past}
use Rattle.std.proofs.lemmas.Bool.{cases_lt}

pub alike_everywhere : {X : Type 0} (n k : ℕ) (x : X) → get_or (replicate n x) k x ≡ x
alike_everywhere n k x =
    ⊎_elim (λ below. get_or-replicate n k x x below)
    (λ past. get_or_past (replicate n x) k x (simp length-replicate past)) (cases_lt k n)
