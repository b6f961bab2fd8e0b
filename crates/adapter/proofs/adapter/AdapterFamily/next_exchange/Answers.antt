use Rattle.std.proofs.Common.{rules}
use Rattle.adapter.specs.Parts.{no_larger}
use Rattle.adapter.proofs.Sides.{once_on_each_side}
use Rattle.adapter.proofs.adapter.AdapterFamily.next_exchange.Goals as goal

pub returns : goal.returns
returns g c =
    let amount = g.T.Priced.amount c.args.self.now.0 in
    let cards = g.T.CardSlots.slots c.args.self.now.0 in
    let sides = once_on_each_side amount cards c.args.i c.args.j c.in_ok-c.c c.in_ok-d.d (search rules) (search rules) _ c.turning-turning.ensures in
    let next = c.next_change.ensures (no_larger amount cards c.args.i c.args.j) (λ t r fits told. search rules) sides.0 sides.1 in
    rw (c.new.ensures.from, c.new.ensures.end) at next
