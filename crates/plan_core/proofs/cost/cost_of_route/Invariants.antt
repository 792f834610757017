use Rattle.std.proofs.Common.{◌≡◌, ◌+◌, ◌*◌, ◌<◌, ◌≤◌, [], ◌∷◌, ◌++◌, drop}
use Rattle.plan_core.specs.Cost.{way_cost}
use Rattle.callback_store.specs.Meter.{AsksJust}
use Rattle.callback_store.specs.Registry.{tables}
use Rattle.callback_store.specs.Tables.{nodes_of, table_at}
use Rattle.plan_core.proofs.cost.cost_of_route.Given as goal

-- the sum so far and the way that is left are the whole way
abbrev pub invariant-loop-customer : goal.invariant-loop-customer
invariant-loop-customer g l = record {
  whole : l.sum + way_cost (table_at (tables l.registry) l.cost) l.from (drop l.customer-index l.route ++ 0 ∷ [])
      ≡ way_cost (table_at (tables l.registry) l.cost) 0 (l.route ++ 0 ∷ []);
  asks : AsksJust l.fn.meter l.meter l.customer-index;
  small : l.sum ≤ l.customer-index * 1000000000;
  known : l.from < nodes_of (tables l.registry);
}
