use Rattle.std.proofs.Common.{◌≡◌, ◌≤◌, ◌*◌, take}
use Rattle.plan_sums.specs.Tours.{cost_of}
use Rattle.plan_sums.proofs.tour.cost.Given as goal

abbrev pub invariant-loop-tour : goal.invariant-loop-tour
invariant-loop-tour l = (l.sum ≡ cost_of (take l.tour-index l.tours)) × (l.sum ≤ l.tour-index * 1000141421342)
