use Rattle.board_rules.proofs.Moved.{moved_on_named}
use Rattle.board_rules.proofs.laws.spots_change_on_named_vehicles.Goals as goal

pub returns : goal.returns
returns c n routes mv customer plan possible differs = moved_on_named c.laws_below.ensures n routes mv customer plan possible differs
