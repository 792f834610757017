use Rattle.move_core.proofs.Rearranging.{moves_rearrange}
use Rattle.move_core.proofs.laws.moves_inside_rearrange.Goals as goal

pub returns : goal.returns
returns c = moves_rearrange
