use Rattle.std.proofs.Common.{◌≡◌, length}
use Rattle.neighbourhood_tests.proofs.views.some_plan.Given as goal

-- the plan keeps its sizes
abbrev pub invariant-loop-step : goal.invariant-loop-step
invariant-loop-step g l = record {
  customers : l.plan.customers ≡ l.customers;
  vehicles : length l.plan.routes ≡ 3;
}
