use Rattle.std.proofs.Common.{◌≡◌, ◌+◌, ap, refl, length, take, drop, Err, arith}
use Rattle.std.proofs.lemmas.List.{drop_all, length-set, take_more_set}
use Rattle.std.proofs.lemmas.Result.{err_from_is_err_and}
use Rattle.dimension_core.specs.Setup.{setting}
use Rattle.plan_core.specs.Drafts.{drafted, routes_by}
use Rattle.range_cache.specs.Cache.{CacheState}
use Rattle.range_cache.specs.Parts.{AreFreshOf}
use Rattle.range_cache.proofs.Drafting.{can_join, joined_row, new_next}
use Rattle.range_cache.proofs.Judged.{first_known, go_on_all, go_on_next, go_on_none, rows_within}
use Rattle.range_cache.proofs.Judging.{AreWalked, row_place, judged_out, judged_full}
use Rattle.range_cache.proofs.Opening.{place_below, kept_row}
use Rattle.range_cache.proofs.Walking.{asks_few}
use Rattle.range_cache.proofs.cache.Cache.judge_in.Goals as goal

pub returns-in_err-walk_drafts : goal.returns-in_err-walk_drafts
returns-in_err-walk_drafts g c =
    let s = setting c.args.setup.now in
    let routes = c.args.plan.now.routes in
    let draft = g.R.NewRoute.draft in
    let new = c.args.new_routes.now in
    let e = c.in_err-walk_drafts.ensures in
    let walked : AreWalked s routes (routes_by draft routes new) c.args.meter.now c.walk_drafts.new.meter (Err c.in_err-walk_drafts.field-0.0) (AreFreshOf draft s routes new c.walk_drafts.new.room.fresh.items (length new)) =
    record { fits = tt; fresh = tt; fault = e.fault; asks = c.walk_drafts.ensures.asks; whole = tt; least = e.least; missed = e.missed } in
    let all = judged_out s routes (routes_by draft routes new) c.args.self.now c.in_err-walk_drafts.field-0.0 _ _ _ _ (err_from_is_err_and c.from_residual.result c.from_residual.ensures.1) walked in
    record { of = all.of; fits = all.fits; rows = all.rows; fault = all.fault; asks = all.asks; whole = all.whole; least = all.least; missed = all.missed }

pub returns-in_err-hold : goal.returns-in_err-hold
returns-in_err-hold g c =
    let all = judged_full (setting c.args.setup.now) c.args.plan.now.routes (routes_by g.R.NewRoute.draft c.args.plan.now.routes c.args.new_routes.now) c.args.self.now _ _ _
    (err_from_is_err_and c.from_residual-in_err-hold.result c.from_residual-in_err-hold.ensures.1) c.walk_drafts.ensures.asks in
    record { of = all.of; fits = all.fits; rows = all.rows; fault = all.fault; asks = all.asks; whole = all.whole; least = all.least; missed = all.missed }

pub loop-k-init : goal.loop-k-init
loop-k-init g c =
    let s = setting c.args.setup.now in
    let routes = c.args.plan.now.routes in
    let draft = g.R.NewRoute.draft in
    let new = c.args.new_routes.now in
    let walked = c.in_ok-walk_drafts.ensures in
    record {
      sized = c.in_ok-hold.ensures.rows;
      held = rw c.hold.ensures.fresh walked.held;
      fresh = rw c.hold.ensures.fresh walked.fresh;
      rows = go_on_all s (routes_by draft routes new) c.requires.known;
    }

pub join-requires : goal.join-requires
join-requires g c =
    let s = setting c.args.setup.now in
    let routes = c.args.plan.now.routes in
    let draft = g.R.NewRoute.draft in
    let new = c.args.new_routes.now in
    let i = c.loop-k.k in
    let r = c.index-new_routes-k.result in
    let v = c.named-vehicle.result in
    let so_far = c.loop-k.invariant in
    let next = new_next draft routes new i v r c.index-new_routes-k.is c.loop-k-test.true c.named-vehicle.ensures in
    let known = first_known s (routes_by draft routes (drop i new)) (routes_by draft routes (drop (i + 1) new)) (v, drafted routes (draft r)) so_far.rows.known next in
    let old = kept_row s routes v _ c.args.self.now (record { rows = c.self.inside.rows.items }) c.index-old.result.now c.self.view_is c.requires.cache known.0 known.1 refl c.index-old.ensures
    (place_below _ _ _ _ _ known.0 known.1 refl (ap (λ (x : CacheState). length x.rows) c.self.view_is) c.requires.cache.sized) in
    let can = can_join draft s routes new c.loop-k.room.fresh.items (length new) i v r c.index-fresh.result.now c.index-old.result.now so_far.fresh c.loop-k-test.true c.index-new_routes-k.is c.index-fresh.ensures
    c.named-vehicle.ensures (rw c.index-new_routes-k.is (c.requires.short i r c.loop-k-test.true)) old in
    record { within = can.has.stops; short = can.short; sized = can.has.sized; fresh = can.tail.sized }

pub returns-in_err-join : goal.returns-in_err-join
returns-in_err-join g c =
    let all = judged_full (setting c.args.setup.now) c.args.plan.now.routes (routes_by g.R.NewRoute.draft c.args.plan.now.routes c.args.new_routes.now) c.args.self.now _ _ _
    (err_from_is_err_and c.from_residual-in_err-join.result c.from_residual-in_err-join.ensures.1) c.walk_drafts.ensures.asks in
    record { of = all.of; fits = all.fits; rows = all.rows; fault = all.fault; asks = all.asks; whole = all.whole; least = all.least; missed = all.missed }

pub loop-k-preserved : goal.loop-k-preserved
loop-k-preserved g c =
    let s = setting c.args.setup.now in
    let routes = c.args.plan.now.routes in
    let draft = g.R.NewRoute.draft in
    let new = c.args.new_routes.now in
    let i = c.loop-k.k in
    let r = c.index-new_routes-k.result in
    let v = c.named-vehicle.result in
    let so_far = c.loop-k.invariant in
    let next = new_next draft routes new i v r c.index-new_routes-k.is c.loop-k-test.true c.named-vehicle.ensures in
    let known = first_known s (routes_by draft routes (drop i new)) (routes_by draft routes (drop (i + 1) new)) (v, drafted routes (draft r)) so_far.rows.known next in
    let old = kept_row s routes v _ c.args.self.now (record { rows = c.self.inside.rows.items }) c.index-old.result.now c.self.view_is c.requires.cache known.0 known.1 refl c.index-old.ensures
    (place_below _ _ _ _ _ known.0 known.1 refl (ap (λ (x : CacheState). length x.rows) c.self.view_is) c.requires.cache.sized) in
    let can = can_join draft s routes new c.loop-k.room.fresh.items (length new) i v r c.index-fresh.result.now c.index-old.result.now so_far.fresh c.loop-k-test.true c.index-new_routes-k.is c.index-fresh.ensures
    c.named-vehicle.ensures (rw c.index-new_routes-k.is (c.requires.short i r c.loop-k-test.true)) old in
    let row = joined_row s v c.index-fresh.result.now.front (drafted routes (draft r)) c.index-old.result.now c.index-fresh.result.now.row c.join.new.row can.has can.tail c.in_ok-join.ensures in
    record {
      sized = rw (length-set c.loop-k.room.rows.items i (v, c.join.new.row)) so_far.sized;
      held = so_far.held;
      fresh = so_far.fresh;
      rows = rw (take_more_set c.loop-k.room.rows.items i (v, c.join.new.row) (row_place _ _ _ _ c.loop-k-test.true so_far.sized refl))
          (go_on_next s (routes_by draft routes new) (routes_by draft routes (drop i new)) (routes_by draft routes (drop (i + 1) new)) (take i c.loop-k.room.rows.items) (v, drafted routes (draft r)) c.join.new.row so_far.rows next row);
    }

pub new-requires : goal.new-requires
new-requires g c =
    let s = setting c.args.setup.now in
    let routes = c.args.plan.now.routes in
    let draft = g.R.NewRoute.draft in
    let new = c.args.new_routes.now in
    let end = ap (λ xs. routes_by draft routes xs) (drop_all c.loop-k.k new c.loop-k-test.false) in
    let all = go_on_none s _ _ _ c.loop-k.invariant.rows end in
    let counted : length new ≡ c.loop-k.k = omega (arith, c.loop-k-test.false, c.loop-k.auto.k-end) in
    rows_within s (routes_by draft routes new) c.take_rows.result.items c.args.self.now c.requires.cache.sized (rw (c.take_rows.ensures, counted) all)

pub returns : goal.returns
returns g c =
    let s = setting c.args.setup.now in
    let routes = c.args.plan.now.routes in
    let draft = g.R.NewRoute.draft in
    let new = c.args.new_routes.now in
    let end = ap (λ xs. routes_by draft routes xs) (drop_all c.loop-k.k new c.loop-k-test.false) in
    let all = go_on_none s _ _ _ c.loop-k.invariant.rows end in
    let counted : length new ≡ c.loop-k.k = omega (arith, c.loop-k-test.false, c.loop-k.auto.k-end) in
    let walked = c.in_ok-walk_drafts.ensures in
    record {
      of = c.new.ensures.of;
      fits = walked.fits;
      rows = rw (c.new.ensures.rows, c.take_rows.ensures, counted) all;
      fault = tt;
      asks = asks_few _ _ _ walked.whole;
      whole = walked.whole;
      least = tt;
      missed = tt;
    }

pub walk_drafts-requires : goal.walk_drafts-requires
walk_drafts-requires g c =
    let r = c.requires in
    record { cache = r.cache; known = r.known; short = r.short; fronts = r.fronts }

pub bounds-new_routes-k : goal.bounds-new_routes-k
bounds-new_routes-k g c = c.loop-k-test.true

pub index-fresh-requires : goal.index-fresh-requires
index-fresh-requires g c = row_place _ _ _ _ c.loop-k-test.true c.loop-k.invariant.held c.loop-k.room.fresh.ok.0

pub index_mut-requires : goal.index_mut-requires
index_mut-requires g c = row_place _ _ _ _ c.loop-k-test.true c.loop-k.invariant.sized c.loop-k.room.rows.ok.0

pub overflow_sub-vehicle : goal.overflow_sub-vehicle
overflow_sub-vehicle g c =
    let s = setting c.args.setup.now in
    let routes = c.args.plan.now.routes in
    let draft = g.R.NewRoute.draft in
    let new = c.args.new_routes.now in
    let i = c.loop-k.k in
    let r = c.index-new_routes-k.result in
    let v = c.named-vehicle.result in
    let next = new_next draft routes new i v r c.index-new_routes-k.is c.loop-k-test.true c.named-vehicle.ensures in
    let known = first_known s (routes_by draft routes (drop i new)) (routes_by draft routes (drop (i + 1) new)) (v, drafted routes (draft r)) c.loop-k.invariant.rows.known next in
    known.0

pub index-old-requires : goal.index-old-requires
index-old-requires g c =
    let s = setting c.args.setup.now in
    let routes = c.args.plan.now.routes in
    let draft = g.R.NewRoute.draft in
    let new = c.args.new_routes.now in
    let i = c.loop-k.k in
    let r = c.index-new_routes-k.result in
    let v = c.named-vehicle.result in
    let next = new_next draft routes new i v r c.index-new_routes-k.is c.loop-k-test.true c.named-vehicle.ensures in
    let known = first_known s (routes_by draft routes (drop i new)) (routes_by draft routes (drop (i + 1) new)) (v, drafted routes (draft r)) c.loop-k.invariant.rows.known next in
    place_below _ _ _ _ _ known.0 known.1 c.self.inside.rows.ok.0 (ap (λ (x : CacheState). length x.rows) c.self.view_is) c.requires.cache.sized
