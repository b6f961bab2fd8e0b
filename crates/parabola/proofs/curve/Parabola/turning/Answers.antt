use Rattle.parabola.specs.Height.{height_of}
use Rattle.parabola.proofs.Turns.{turns_by_steps}
use Rattle.parabola.proofs.curve.Parabola.turning.Goals as goal

pub returns : goal.returns
returns c =
    let steps = c.steps.result in
    let first = rw (c.new.ensures.from, c.new.ensures.end) at c.next_crossing.ensures in
    rw c.unwrap_or.ensures (turns_by_steps (height_of c.args.self.now) steps.start steps.step c.steps.ensures c.next_crossing.result first)
