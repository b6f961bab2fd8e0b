use Rattle.std.proofs.Common.{rules}
use Rattle.vans.proofs.Kept.{coordinate_kept}
use Rattle.vans.proofs.van.Van.position_at.Goals as goal

pub invariant_of-result : goal.invariant_of-result
invariant_of-result c =
    let v = c.args.self.now in
    let t = c.args.time in record {
      near = (
        coordinate_kept c.line_at.result v.px v.vx t.number (search rules) v.within.0 v.within.2 t.within,
        coordinate_kept c.line_at-2.result v.py v.vy t.number (search rules) v.within.1 v.within.3 t.within,
      );
    }
