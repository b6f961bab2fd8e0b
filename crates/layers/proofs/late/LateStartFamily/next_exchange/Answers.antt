use Rattle.std.proofs.Common.{rules}
use Rattle.layers.specs.Delay.{moved_exchange}
use Rattle.layers.proofs.late.LateStartFamily.next_exchange.Goals as goal

pub returns : goal.returns
returns g c = search (rules, moved_exchange)
