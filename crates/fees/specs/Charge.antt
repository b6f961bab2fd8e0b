-- What a fee card charges, and what making one answers.
use Rattle.std.specs.Prelude.{◌≡◌, ℕ, ◌+◌, ◌*◌, ◌<◌, ◌≤◌, min, pos, Result}
use Rattle.family.specs.declared.refusal.Refusal.{Refusal}
use Rattle.family.specs.Makes.{Makes}
use Rattle.family.specs.Order.{last_time}
use Rattle.family.specs.Amounts.{Amount}
use Rattle.fees.specs.Limits.{Limits}
use Rattle.fees.specs.declared.card.FeeCard.{FeeCard}

-- the opening fee and the rate for each of t coins, never more than the cap
abbrev pub charge : FeeCard → ℕ → ℕ
charge c t = min (c.opening + c.rate * t) c.cap

abbrev pub charge_at : Amount FeeCard
charge_at c t = pos (charge c t)

-- the cap holds from m on, and at no time before; m is the last time where it never holds
abbrev pub CappedFrom : FeeCard → ℕ → Type 0
CappedFrom c m =
    (m ≤ last_time)
    × ((t : ℕ) → t < m → c.opening + c.rate * t < c.cap)
    × ((t : ℕ) → m ≤ t → t < last_time → c.cap ≤ c.opening + c.rate * t)

-- a fee card keeps the numbers that it was made of
abbrev pub MadeOf : ℕ → ℕ → ℕ → FeeCard → Type 0
MadeOf opening rate cap c = (c.opening ≡ opening) × (c.rate ≡ rate) × (c.cap ≡ cap)

-- it is made of numbers within the limits, and of no others
abbrev pub Making : ℕ → ℕ → ℕ → Result FeeCard Refusal → Type 0
Making opening rate cap = Makes (Limits opening rate cap) (MadeOf opening rate cap)
