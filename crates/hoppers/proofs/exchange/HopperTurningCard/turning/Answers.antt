use Rattle.std.proofs.Common.{arith}
use Rattle.hoppers.specs.Fills.{turn_anywhere}
use Rattle.hoppers.proofs.exchange.HopperTurningCard.turning.Goals as goal

pub returns : goal.returns
returns c = turn_anywhere c.args.self.now c.args._other.now _ (omega arith)
