use Rattle.std.proofs.Common.{arith}
use Rattle.fees.specs.Charges.{turns_at_start, turns_at_cap, turns_down_before_cap, turns_up_before_cap}
use Rattle.fees.proofs.turn.FeeCardTurningCard.turning.Goals as goal

pub returns-in_default : goal.returns-in_default
returns-in_default c = turns_at_start c.args.self.now c.args.other.now _ _ c.capped_from.ensures c.capped_from-2.ensures (omega arith)

pub returns-then-first-second : goal.returns-then-first-second
returns-then-first-second c =
    turns_down_before_cap c.args.self.now c.args.other.now _ _ c.capped_from.ensures c.capped_from-2.ensures c.in-Some.uncapped c.min-capped.result
    (omega arith) (omega arith) (omega arith) (omega arith)

pub returns-then-first-second-2 : goal.returns-then-first-second-2
returns-then-first-second-2 c =
    turns_up_before_cap c.args.self.now c.args.other.now _ _ c.capped_from.ensures c.capped_from-2.ensures c.in-Some.uncapped c.min-capped.result
    (omega arith) (omega arith) (omega arith) (omega arith)

pub returns : goal.returns
returns c =
    turns_at_cap c.args.self.now c.args.other.now _ _ c.capped_from.ensures c.capped_from-2.ensures c.in-Some.uncapped c.min-capped.result
    (omega arith) (omega arith) (λ slower. grind arith) (λ faster. grind arith)
