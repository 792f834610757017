use Rattle.plan_core.proofs.Places.{contains_from_stands, stands_from_contains}
use Rattle.plan_core.proofs.KnownRoutes.{stands_there}
use Rattle.plan_core.proofs.laws.customers_stand_by_route.Goals as goal

pub returns : goal.returns
returns c = record { among = contains_from_stands; somewhere = stands_from_contains; there = stands_there }
