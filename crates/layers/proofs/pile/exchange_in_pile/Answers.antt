use Rattle.std.proofs.Common.{rules}
use Rattle.layers.specs.Delay.{piled_exchange}
use Rattle.layers.proofs.pile.exchange_in_pile.Goals as goal

pub returns : goal.returns
returns g c = search (rules, piled_exchange)
