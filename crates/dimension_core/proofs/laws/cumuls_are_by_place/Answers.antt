use Rattle.dimension_core.proofs.Places.{cumuls_by_place}
use Rattle.dimension_core.proofs.laws.cumuls_are_by_place.Goals as goal

pub returns : goal.returns
returns c = cumuls_by_place
