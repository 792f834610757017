use Rattle.move_core.proofs.Savings.{save_the_same}
use Rattle.move_core.proofs.laws.moves_save_the_same.Goals as goal

pub returns : goal.returns
returns c = save_the_same c.costs_differ_by_named.ensures c.moves_name_vehicles.ensures
