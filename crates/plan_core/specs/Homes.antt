use Rattle.std.specs.Prelude.{◌≡◌, ℕ, ◌-◌, ◌≤◌, List, length, slice_index}
use Rattle.plan_core.specs.Plan.{PlanState, StandsAt, IsPlan, AreSizes}

-- For each customer (the first is customer 1) the vehicle on which it last stood, 0 if it never did. A customer that stands on the plan
-- stands on that vehicle.
pub record AreHomes (routes : List (List ℕ)) (homes : List ℕ) : Type 0 where
  pub at : (c v p : ℕ) → StandsAt routes c v p → slice_index homes (c - 1) ≡ v
  pub known : (k : ℕ) → slice_index homes k ≤ length routes

-- what every plan keeps
pub record IsKept (plan : PlanState) (row : List ℕ) : Type 0 where
  pub sound : IsPlan plan.customers plan.routes
  pub sizes : AreSizes plan
  pub counted : length row ≡ plan.customers
  pub homes : AreHomes plan.routes row
