use Rattle.std.proofs.Common.{rules}
use Rattle.layers.proofs.Turning.{exchange_turned}
use Rattle.layers.proofs.mirror.MirrorFamily.next_exchange.Goals as goal

pub returns : goal.returns
returns g c = search (rules, exchange_turned)
