use Rattle.std.proofs.Common.{ℕ, ◌*◌, ◌<◌, ◌≤◌, ◌≡◌, ◌++◌, length}
use Rattle.std.specs.Prelude.{vec_capacity}
use Rattle.callback_store.specs.Meter.{AsksJust}
use Rattle.dimension_core.specs.Feasible.{FitsIn}
use Rattle.dimension_core.specs.Setup.{setting}
use Rattle.range_cache.specs.Asks.{walk_asks}
use Rattle.range_cache.proofs.Rows.{AreFilled, IsFound}
use Rattle.range_cache.proofs.row.Row.walk_on.Given as goal

-- the route is in bounds in the dimensions so far, and the ranges that they were walked for are there
abbrev pub invariant-loop-dimension : goal.invariant-loop-dimension
invariant-loop-dimension g l = record {
  counted : l.fresh-inside.stops ≡ length l.after;
  filled : AreFilled (IsFound (setting l.setup) l.vehicle (length l.before) (l.before ++ l.after)) (length l.after) l.dimension l.fresh-inside.ranges.items;
  room : length (setting l.setup).dimensions * length l.after ≤ vec_capacity l.fresh-inside.ranges;
  fits : (d : ℕ) → d < l.dimension → FitsIn (setting l.setup) d l.vehicle (l.before ++ l.after);
  asks : AsksJust l.fn.meter l.meter (l.dimension * walk_asks l.before (l.before ++ l.after));
}
