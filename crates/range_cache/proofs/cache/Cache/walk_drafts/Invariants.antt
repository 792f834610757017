use Rattle.std.proofs.Common.{◌≤◌, drop, length}
use Rattle.dimension_core.specs.Setup.{setting}
use Rattle.plan_core.specs.Drafts.{routes_by}
use Rattle.range_cache.specs.Parts.{AreFreshOf}
use Rattle.range_cache.proofs.Judged.{IsRest, AreAsked}
use Rattle.range_cache.proofs.Misses.{AreAskedTo}
use Rattle.range_cache.proofs.cache.Cache.walk_drafts.Given as goal

-- what holds of the rest holds of all, and for those before it all was asked
abbrev pub invariant-loop-k : goal.invariant-loop-k
invariant-loop-k g l = record {
  sized : length l.new_routes ≤ length l.room.fresh.items;
  rest : IsRest (setting l.setup) (routes_by g.R.NewRoute.draft l.plan.routes l.new_routes) (routes_by g.R.NewRoute.draft l.plan.routes (drop l.k l.new_routes));
  fresh : AreFreshOf g.R.NewRoute.draft (setting l.setup) l.plan.routes l.new_routes l.room.fresh.items l.k;
  asks : AreAsked (length (setting l.setup).dimensions) l.plan.routes (routes_by g.R.NewRoute.draft l.plan.routes l.new_routes) (routes_by g.R.NewRoute.draft l.plan.routes (drop l.k l.new_routes)) l.fn.meter l.meter;
  asked_to : AreAskedTo (setting l.setup) l.plan.routes (routes_by g.R.NewRoute.draft l.plan.routes l.new_routes) (routes_by g.R.NewRoute.draft l.plan.routes (drop l.k l.new_routes)) l.fn.meter l.meter;
}
