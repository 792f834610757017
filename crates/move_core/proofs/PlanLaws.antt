use Rattle.plan_core.specs.Laws.{RoutesAreReplaced, CustomersStandByRoute, AmongIsTested}

-- what plans promise of new routes, of places and of the test whether a number is among some numbers
pub record PlanLaws : Type 0 where
  pub replaced : RoutesAreReplaced
  pub places : CustomersStandByRoute
  pub among : AmongIsTested
