use Rattle.std.proofs.Common.{◌≡◌, ◌∙◌, List, ℕ, length, sym, subst}
use Rattle.dimension_core.specs.Feasible.{FitsAll}
use Rattle.dimension_core.specs.Setup.{setting}
use Rattle.plan_core.specs.Plan.{route_at}
use Rattle.range_cache.specs.Cache.{IsRowOf}
use Rattle.range_cache.proofs.Caches.{not_out}
use Rattle.range_cache.proofs.Opening.{at_most_as, known_as, short_as, none_kept, tail_whole, first_most, first_just}
use Rattle.range_cache.proofs.cache.first_row.Goals as goal

pub route-requires : goal.route-requires
route-requires g c = record { low = c.requires.low; high = at_most_as _ _ _ c.requires.vehicles c.requires.high }

pub walk_on-requires : goal.walk_on-requires
walk_on-requires g c =
    let route = c.customers-route.ensures ∙ c.deref.ensures in
    record {
      low = c.requires.low;
      high = c.requires.high;
      known = known_as _ _ _ _ route c.requires.customers c.route.ensures.known;
      short = short_as _ _ route c.route.ensures.short;
      front = none_kept (setting c.args.setup.now) c.args.vehicle _ _ c.empty-none.ensures;
    }

pub returns-in-Ok : goal.returns-in-Ok
returns-in-Ok g c =
    let s = setting c.args.setup.now in
    let route : c.customers-route.result.now ≡ route_at c.args.plan.now.routes c.args.vehicle = c.customers-route.ensures ∙ c.deref.ensures ∙ c.route.ensures.value in
    record {
      row = subst (λ (xs : List ℕ). IsRowOf s c.args.vehicle xs c.walk_on.new.fresh) route (tail_whole s c.args.vehicle _ _ c.in-Ok.ensures.tail);
      asks = first_most _ _ (length s.dimensions) _ _ route c.walk_on.ensures.asks;
      whole = first_just _ _ (length s.dimensions) _ _ route c.in-Ok.ensures.whole;
    }

pub unreachable-requires : goal.unreachable-requires
unreachable-requires g c =
    let s = setting c.args.setup.now in
    let route : c.customers-route.result.now ≡ route_at c.args.plan.now.routes c.args.vehicle = c.customers-route.ensures ∙ c.deref.ensures ∙ c.route.ensures.value in
    let fits = subst (λ (r : List ℕ). FitsAll s c.args.vehicle r) (sym route) (c.requires.feasible c.args.vehicle c.requires.low c.requires.high) in
    let out = rw c.in-Err-Bound.field-0-is at c.in-Err-Bound.ensures.fault in
    not_out s c.args.vehicle _ _ fits out.1

pub returns : goal.returns
returns g c =
    let s = setting c.args.setup.now in
    let route : c.customers-route.result.now ≡ route_at c.args.plan.now.routes c.args.vehicle = c.customers-route.ensures ∙ c.deref.ensures ∙ c.route.ensures.value in
    record { row = tt; asks = first_most _ _ (length s.dimensions) _ _ route c.walk_on.ensures.asks; whole = tt }
