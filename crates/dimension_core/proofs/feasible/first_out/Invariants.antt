use Rattle.std.proofs.Common.{ℕ, ◌<◌, ◌*◌}
use Rattle.callback_store.specs.Meter.{AsksJust}
use Rattle.dimension_core.specs.Cumuls.{route_asks}
use Rattle.dimension_core.specs.Setup.{setting}
use Rattle.dimension_core.specs.Feasible.{FitsIn}
use Rattle.dimension_core.proofs.feasible.first_out.Given as goal

-- the route is in bounds in each dimension so far
abbrev pub invariant-loop-k : goal.invariant-loop-k
invariant-loop-k g l = record {
  fits : (n : ℕ) → n < l.k → FitsIn (setting l.setup) n l.vehicle l.route;
  asks : AsksJust l.fn.meter l.meter (l.k * route_asks l.route);
}
