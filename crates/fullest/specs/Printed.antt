-- The lines of the account, in bytes.
use Rattle.std.specs.Prelude.{ℕ, List, ◌++◌, codes, Ok, Err, Result, neg_ℤ}
use Rattle.std.specs.Fmt.{decimal, signed_decimal}
use Rattle.family.specs.declared.refusal.Refusal.{Refusal}
use Rattle.family.specs.Refusals.{number_of, reason_of}
use Rattle.fullest.specs.declared.reading.Attempt.{Attempt}
use Rattle.fullest.specs.declared.Standing.{Standing}
use Rattle.fullest.specs.declared.stretch.PricedStretch.{PricedStretch}

-- set up, or the refusal by its number and in words
abbrev pub answer_text : Result Unit Refusal → List ℕ
answer_text (Ok _) = codes "set up"
answer_text (Err e) = codes "refusal " ++ (decimal (number_of e) ++ (codes ", " ++ reason_of e))

abbrev pub attempt_text : Attempt → List ℕ
attempt_text a =
    codes "slot " ++ (decimal a.reading.slot ++ (codes ", with " ++ (decimal a.reading.fill ++ (codes " coins in a capacity of "
    ++ (decimal a.reading.capacity ++ (codes ": " ++ answer_text a.answer))))))

abbrev pub standing_text : Standing → List ℕ
standing_text s =
    codes "slot " ++ (decimal s.slot ++ (codes ": " ++ (decimal s.hopper.fill ++ (codes " coins at opening, at a rate of "
    ++ (signed_decimal s.hopper.rate ++ codes " a minute")))))

-- the amount is that of a mirror, and so a fill with its sign turned
abbrev pub stretch_text : PricedStretch → List ℕ
stretch_text s =
    codes "minutes " ++ (decimal s.stretch.first ++ (codes " to " ++ (decimal s.stretch.last ++ (codes ": slot " ++ (decimal s.stretch.slot
    ++ (codes ", with " ++ (signed_decimal (neg_ℤ s.amount) ++ (codes " coins at minute " ++ decimal s.stretch.first))))))))
