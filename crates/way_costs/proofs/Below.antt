-- Laws of plans and moves on which the law of savings stands, as the crates below state them.
use Rattle.plan_core.specs.Laws.{RoutesAreReplaced, CostsDifferByNamed}
use Rattle.move_core.specs.Laws.{MovesArePossible, MovesNameVehicles, MovesKeepPlans}

pub record Laws : Type 0 where
  pub replaced : RoutesAreReplaced
  pub costs : CostsDifferByNamed
  pub possible : MovesArePossible
  pub names : MovesNameVehicles
  pub plans : MovesKeepPlans
