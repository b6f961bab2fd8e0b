use Rattle.std.proofs.Common.{◌-◌, arith}
use borrow.Author.Differences.{ints}
use Rattle.crossing.proofs.Signs.{falls_below, rises_to_zero}
use Rattle.crossing.proofs.wait.Goals as goal

pub returns-then-drift-lt0 : goal.returns-then-drift-lt0
returns-then-drift-lt0 c =
    falls_below c.args.gap c.args.drift _ _ (omega (arith, ints)) (omega (arith, ints)) (omega (arith, ints)) (omega (arith, ints))

pub returns-then-drift-gt0 : goal.returns-then-drift-gt0
returns-then-drift-gt0 c =
    rises_to_zero c.args.gap c.args.drift (c.unsigned_abs-then-drift-gt0.result - 1) _ (omega (arith, ints)) (omega (arith, ints)) (omega (arith, ints)) (omega (arith, ints))
