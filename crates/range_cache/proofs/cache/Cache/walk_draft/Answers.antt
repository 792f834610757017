use Rattle.std.proofs.Common.{◌≡◌, ◌≤◌, ◌∙◌, ap, refl, length}
use Rattle.dimension_core.specs.Setup.{setting}
use Rattle.plan_core.specs.Drafts.{drafted}
use Rattle.plan_core.specs.Plan.{route_at}
use Rattle.range_cache.specs.Cache.{CacheState}
use Rattle.range_cache.proofs.Drafting.{parted_draft, parted_front, parted_change}
use Rattle.range_cache.proofs.Opening.{place_below, kept_row, all_as, short_as}
use Rattle.range_cache.proofs.cache.Cache.walk_draft.Goals as goal

pub walk_on-requires : goal.walk_on-requires
walk_on-requires g c =
    let s = setting c.args.setup.now in
    let routes = c.args.plan.now.routes in
    let d = g.R.NewRoute.draft c.args.new.now in
    let named = c.named-vehicle.ensures in
    let is : c.customers-old.result.now ≡ route_at routes d.vehicle = c.customers-old.ensures ∙ c.deref.ensures ∙ c.route.ensures.value ∙ ap (λ v. route_at routes v) named in
    let parts = parted_draft c.fronts_are_common.ensures routes d c.customers-old.result.now c.follows-rest.result.now c.stays-kept.result c.common_front-more.result c.requires.front
    is c.follows-rest.ensures c.stays-kept.ensures c.common_front-more.ensures.front c.common_front-more.ensures.value in
    let low : 1 ≤ c.named-vehicle.result = rw named c.requires.low in
    let high : c.named-vehicle.result ≤ s.vehicles = rw named c.requires.high in
    record {
      low = low;
      high = high;
      known = all_as _ _ (drafted routes d) parts.whole c.requires.known;
      short = short_as _ (drafted routes d) parts.whole c.requires.short;
      front = parted_front s routes d _ _ _ _ named parts _
          (kept_row s routes _ _ c.args.self.now (record { rows = c.self.inside.rows.items }) _ c.self.view_is c.requires.cache low high refl c.index-row.ensures
          (place_below _ _ _ _ _ low high refl (ap (λ (x : CacheState). length x.rows) c.self.view_is) c.requires.cache.sized));
    }

pub returns : goal.returns
returns g c =
    let s = setting c.args.setup.now in
    let routes = c.args.plan.now.routes in
    let d = g.R.NewRoute.draft c.args.new.now in
    let named = c.named-vehicle.ensures in
    let is : c.customers-old.result.now ≡ route_at routes d.vehicle = c.customers-old.ensures ∙ c.deref.ensures ∙ c.route.ensures.value ∙ ap (λ v. route_at routes v) named in
    let parts = parted_draft c.fronts_are_common.ensures routes d c.customers-old.result.now c.follows-rest.result.now c.stays-kept.result c.common_front-more.result c.requires.front
    is c.follows-rest.ensures c.stays-kept.ensures c.common_front-more.ensures.front c.common_front-more.ensures.value in
    let e = c.walk_on.ensures in
    let all = parted_change s routes d _ _ _ _ named parts c.fronts_are_common.ensures c.args.meter.now c.walk_on.new.meter c.walk_on.result c.walk_on.new.fresh
    (record { fits = e.fits; row = e.tail; fault = e.fault; asks = e.asks; whole = e.whole; least = e.least; missed = e.missed }) in
    record { fits = all.fits; fresh = all.row; fault = all.fault; asks = all.asks; whole = all.whole; least = all.least; missed = all.missed }
