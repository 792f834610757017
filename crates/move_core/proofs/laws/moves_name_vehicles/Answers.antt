use Rattle.move_core.proofs.ByEffect.{by_vehicles_named}
use Rattle.move_core.proofs.laws.moves_name_vehicles.Goals as goal

pub returns : goal.returns
returns c = by_vehicles_named
