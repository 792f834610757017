use Rattle.pin_core.proofs.Fronts.{frozen_within, thawed_within}
use Rattle.pin_core.proofs.laws.fronts_within_routes.Goals as goal

pub returns-clause-freeze : goal.returns-clause-freeze
returns-clause-freeze c = frozen_within

pub returns-clause-thaw : goal.returns-clause-thaw
returns-clause-thaw c = thawed_within
