use Rattle.move_core.proofs.Carried.{moves_carry}
use Rattle.move_core.proofs.laws.moves_between_carry_over.Goals as goal

pub returns : goal.returns
returns c = moves_carry
