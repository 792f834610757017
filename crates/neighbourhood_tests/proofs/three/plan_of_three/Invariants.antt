use Rattle.std.proofs.Common.{◌≡◌, length}
use Rattle.neighbourhood_tests.proofs.three.plan_of_three.Given as goal

-- the plan keeps its sizes
abbrev pub invariant-loop-customer : goal.invariant-loop-customer
invariant-loop-customer g l = record {
  customers : l.plan.customers ≡ 3;
  vehicles : length l.plan.routes ≡ 1;
}
