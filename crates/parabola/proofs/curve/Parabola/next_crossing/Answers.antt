use Rattle.crossing.specs.Line.{line}
use Rattle.parabola.proofs.Hollow.{by_reach}
use Rattle.parabola.proofs.curve.Parabola.next_crossing.Goals as goal

pub returns : goal.returns
returns c =
    let slope = c.half_slope.result in
    let first = rw (c.new-span.ensures.from, c.new-span.ensures.end) at c.band_crossing.ensures in
    by_reach c.args.self.now (line slope.start slope.step) c.in_ok-reach.field-0 _ _ c.band_crossing.result c.in_ok-reach.ensures c.half_slope.ensures.value first
