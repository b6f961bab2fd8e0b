use Rattle.slots.proofs.Alike.{alike_everywhere}
use Rattle.slots.proofs.table.Slots.new.Goals as goal

pub returns : goal.returns
returns g c k = alike_everywhere 256 k _
