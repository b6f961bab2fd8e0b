use Rattle.std.proofs.Common.{rules, refl, arith}
use Rattle.fullest.proofs.Tried.{one_more_tried}
use Rattle.fullest.proofs.account.set_up.Goals as goal

pub loop-reading-preserved : goal.loop-reading-preserved
loop-reading-preserved g c = (
  rw c.in_ok-push.ensures.items
      (one_more_tried _ _ _ c.args.readings.now c.loop-reading.reading-index _ _ _ c.loop-reading.invariant.0 (omega arith) refl c.place.ensures.answer),
  search rules,
)
