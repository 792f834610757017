use Rattle.std.proofs.Common.{◌≤◌, drop, take, length}
use Rattle.dimension_core.specs.Setup.{setting}
use Rattle.plan_core.specs.Drafts.{routes_by}
use Rattle.range_cache.specs.Parts.{AreFreshOf}
use Rattle.range_cache.proofs.Judged.{RowsGoOn}
use Rattle.range_cache.proofs.cache.Cache.judge_in.Given as goal

-- the rows so far are those of the new routes so far
abbrev pub invariant-loop-k : goal.invariant-loop-k
invariant-loop-k g l = record {
  sized : length l.new_routes ≤ length l.room.rows.items;
  held : length l.new_routes ≤ length l.room.fresh.items;
  fresh : AreFreshOf g.R.NewRoute.draft (setting l.setup) l.plan.routes l.new_routes l.room.fresh.items (length l.new_routes);
  rows : RowsGoOn (setting l.setup) (routes_by g.R.NewRoute.draft l.plan.routes l.new_routes) (routes_by g.R.NewRoute.draft l.plan.routes (drop l.k l.new_routes)) (take l.k l.room.rows.items);
}
