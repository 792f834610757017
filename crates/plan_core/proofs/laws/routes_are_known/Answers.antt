use Rattle.plan_core.proofs.Short.{routes_short}
use Rattle.plan_core.proofs.KnownRoutes.{routes_known, new_short, new_known}
use Rattle.plan_core.proofs.laws.routes_are_known.Goals as goal

pub returns : goal.returns
returns c = record { short = routes_short; known = routes_known; new_short = new_short; new_known = new_known }
