use Rattle.std.proofs.Common.{arith, rules}
use Rattle.adapter.proofs.Sides.{first_on_either_side}
use Rattle.adapter.proofs.halving.next_change.Goals as goal

pub returns : goal.returns
returns g c p tells before after =
    let once = c.change_by_halving.ensures p tells (search rules) in
    first_on_either_side p c.args.span.from.number c.min-middle.result c.args.span.end.number c.change_by_halving.result c.or_else.result
    (omega arith) (omega arith) (search (rules, once)) (λ none. search rules) (λ u some. search rules)
