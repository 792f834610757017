use Rattle.move_core.proofs.Moved.{shifts_parted}
use Rattle.move_core.proofs.laws.shifts_in_parts.Goals as goal

pub returns : goal.returns
returns c = shifts_parted
