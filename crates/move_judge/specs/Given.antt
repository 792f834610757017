-- Laws of plans, pins and moves by which a move is judged, as the crates below state them.
use Rattle.plan_core.specs.Laws.{RoutesAreReplaced, RoutesAreKnown, CustomersStandByRoute}
use Rattle.pin_core.specs.Laws.{FreezesAreByNamed}
use Rattle.move_core.specs.Laws.{MovesArePossible, MovesNameVehicles, MovesKeepPlans, MovesKeepTheUntouched, FrontsByFirstChange, MovesInsideRearrange, MovesBetweenCarryOver, ShiftsInParts}

pub record Laws : Type 0 where
  pub replaced : RoutesAreReplaced
  pub known : RoutesAreKnown
  pub places : CustomersStandByRoute
  pub freezes : FreezesAreByNamed
  pub possible : MovesArePossible
  pub names : MovesNameVehicles
  pub plans : MovesKeepPlans
  pub untouched : MovesKeepTheUntouched
  pub fronts : FrontsByFirstChange
  pub inside : MovesInsideRearrange
  pub between : MovesBetweenCarryOver
  pub parts : ShiftsInParts
