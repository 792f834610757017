-- The plan that is kept.
use Rattle.std.specs.Prelude.{◌≡◌}
use Rattle.dimension_core.specs.Setting.{Setting}
use Rattle.plan_core.specs.Plan.{PlanState}
use Rattle.plan_core.specs.Commits.{AreStamps}
use Rattle.board_rules.specs.State.{BoardState}

-- The plan is that of the state: its customers are the board's, its routes are the state's, and its numbers are those of the commits.
pub record IsPlanOf (s : Setting) (state : BoardState) (plan : PlanState) : Type 0 where
  pub customers : plan.customers ≡ s.customers
  pub routes : plan.routes ≡ state.routes
  pub stamps : AreStamps state.commits plan
