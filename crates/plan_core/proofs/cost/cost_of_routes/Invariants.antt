use Rattle.std.proofs.Common.{◌≡◌, ◌*◌, ◌≤◌, take}
use Rattle.plan_core.specs.Cost.{cost_of, asks_of}
use Rattle.callback_store.specs.Meter.{AsksJust}
use Rattle.callback_store.specs.Registry.{tables}
use Rattle.callback_store.specs.Tables.{table_at}
use Rattle.plan_core.specs.Plan.{routes_of}
use Rattle.plan_core.proofs.cost.cost_of_routes.Given as goal

-- the sum over the routes so far
abbrev pub invariant-loop-route : goal.invariant-loop-route
invariant-loop-route g l = record {
  whole : l.sum ≡ cost_of (table_at (tables l.registry) l.cost) (routes_of (take l.route-index l.routes));
  asks : AsksJust l.fn.meter l.meter (asks_of (routes_of (take l.route-index l.routes)));
  small : l.sum ≤ l.route-index * 1001000000000;
}
