use Rattle.std.proofs.Common.{◌+◌, ◌≡◌, ◌≤◌, ap, subst, length, drop, refl, Err, arith, slice_set}
use Rattle.std.proofs.lemmas.List.{drop_all, length-set}
use Rattle.std.proofs.lemmas.Result.{err_from_is_err_and}
use Rattle.dimension_core.specs.Setup.{setting}
use Rattle.plan_core.specs.Drafts.{drafted, routes_by}
use Rattle.plan_core.specs.Plan.{route_at}
use Rattle.range_cache.specs.Parts.{IsFreshOf, AreFreshOf}
use Rattle.range_cache.proofs.Changing.{IsChange}
use Rattle.range_cache.proofs.Drafting.{fresh_next}
use Rattle.range_cache.proofs.Judged.{rest_all, rest_next, rest_none, first_known, asked_none, asked_next, asked_all}
use Rattle.range_cache.proofs.Judging.{next_of, row_place, walked_none, walked_out}
use Rattle.range_cache.proofs.Misses.{asked_to_all, asked_to_next}
use Rattle.range_cache.proofs.Walking.{asks_few}
use Rattle.range_cache.proofs.cache.Cache.walk_drafts.Goals as goal

pub returns-in_err-hold_fresh : goal.returns-in_err-hold_fresh
returns-in_err-hold_fresh g c =
    let s = setting c.args.setup.now in
    let routes = c.args.plan.now.routes in
    let draft = g.R.NewRoute.draft in
    let new = c.args.new_routes.now in
    let failed = err_from_is_err_and c.from_residual.result c.from_residual.ensures.1 in
    let all = walked_none s routes (routes_by draft routes new) c.args.meter.now _ (AreFreshOf draft s routes new c.hold_fresh.new.self.fresh.items (length new)) failed in
    let held = walked_none s routes (routes_by draft routes new) c.args.meter.now _ (length new ≤ length c.hold_fresh.new.self.fresh.items) failed in
    record { fits = all.fits; fresh = all.fresh; held = held.fresh; fault = all.fault; asks = all.asks; whole = all.whole; least = all.least; missed = all.missed }

pub loop-k-init : goal.loop-k-init
loop-k-init g c =
    let s = setting c.args.setup.now in
    let all = routes_by g.R.NewRoute.draft c.args.plan.now.routes c.args.new_routes.now in
    record {
      sized = c.in_ok-hold_fresh.ensures;
      rest = rest_all s all c.requires.known;
      fresh = λ k d f h. absurd (omega arith);
      asks = asked_none _ _ all _;
      asked_to = asked_to_all s _ all _;
    }

pub walk_draft-requires : goal.walk_draft-requires
walk_draft-requires g c =
    let s = setting c.args.setup.now in
    let routes = c.args.plan.now.routes in
    let draft = g.R.NewRoute.draft in
    let item = c.index-new_routes-k in
    let i = c.loop-k.k in
    let next = ap (λ xs. routes_by draft routes xs) (next_of c.args.new_routes.now i item.result item.is c.loop-k-test.true) in
    let known = first_known s (routes_by draft routes (drop i c.args.new_routes.now)) (routes_by draft routes (drop (i + 1) c.args.new_routes.now)) ((draft item.result).vehicle, drafted routes (draft item.result)) c.loop-k.invariant.rest.known next in
    record {
      cache = c.requires.cache;
      low = known.0;
      high = known.1;
      known = known.2;
      short = rw item.is (c.requires.short i item.result c.loop-k-test.true);
      front = rw item.is (c.requires.fronts i item.result c.loop-k-test.true);
    }

pub returns-in_err-walk_draft : goal.returns-in_err-walk_draft
returns-in_err-walk_draft g c =
    let s = setting c.args.setup.now in
    let routes = c.args.plan.now.routes in
    let draft = g.R.NewRoute.draft in
    let new = c.args.new_routes.now in
    let r = c.index-new_routes-k.result in
    let d = draft r in
    let i = c.loop-k.k in
    let so_far = c.loop-k.invariant in
    let next = ap (λ xs. routes_by draft routes xs) (next_of new i r c.index-new_routes-k.is c.loop-k-test.true) in
    let e = c.in_err-walk_draft.ensures in
    let change : IsChange s d.vehicle (route_at routes d.vehicle) (drafted routes d) c.loop-k.meter c.walk_draft.new.meter (Err c.in_err-walk_draft.field-0.0) (IsFreshOf s routes d c.walk_draft.new.fresh) =
    record { fits = tt; row = tt; fault = e.fault; asks = c.walk_draft.ensures.asks; whole = tt; least = e.least; missed = e.missed } in
    let failed = err_from_is_err_and c.from_residual-in_err-walk_draft.result c.from_residual-in_err-walk_draft.ensures.1 in
    let all = walked_out s routes (routes_by draft routes new) (routes_by draft routes (drop i new)) (routes_by draft routes (drop (i + 1) new)) (d.vehicle, drafted routes d) c.in_err-walk_draft.field-0.0 _ _ _ _
    (AreFreshOf draft s routes new (slice_set c.loop-k.room.fresh.items i c.walk_draft.new.fresh) (length new)) (IsFreshOf s routes d c.walk_draft.new.fresh) failed so_far.rest so_far.asks so_far.asked_to next change in
    let held = walked_out s routes (routes_by draft routes new) (routes_by draft routes (drop i new)) (routes_by draft routes (drop (i + 1) new)) (d.vehicle, drafted routes d) c.in_err-walk_draft.field-0.0 _ _ _ _
    (length new ≤ length (slice_set c.loop-k.room.fresh.items i c.walk_draft.new.fresh)) (IsFreshOf s routes d c.walk_draft.new.fresh) failed so_far.rest so_far.asks so_far.asked_to next change in
    record { fits = all.fits; fresh = all.fresh; held = held.fresh; fault = all.fault; asks = all.asks; whole = all.whole; least = all.least; missed = all.missed }

pub loop-k-preserved : goal.loop-k-preserved
loop-k-preserved g c =
    let s = setting c.args.setup.now in
    let routes = c.args.plan.now.routes in
    let draft = g.R.NewRoute.draft in
    let new = c.args.new_routes.now in
    let r = c.index-new_routes-k.result in
    let d = draft r in
    let i = c.loop-k.k in
    let so_far = c.loop-k.invariant in
    let next = ap (λ xs. routes_by draft routes xs) (next_of new i r c.index-new_routes-k.is c.loop-k-test.true) in
    let e = c.in_ok-walk_draft.ensures in
    record {
      sized = rw (length-set c.loop-k.room.fresh.items i c.walk_draft.new.fresh) so_far.sized;
      rest = rest_next s (routes_by draft routes new) (routes_by draft routes (drop i new)) (routes_by draft routes (drop (i + 1) new)) (d.vehicle, drafted routes d) so_far.rest next e.fits;
      fresh = fresh_next draft s routes new c.loop-k.room.fresh.items i r c.walk_draft.new.fresh so_far.fresh c.index-new_routes-k.is c.loop-k-test.true
          (row_place _ _ _ _ c.loop-k-test.true so_far.sized refl) e.fresh;
      asks = asked_next (length s.dimensions) routes (routes_by draft routes new) (routes_by draft routes (drop i new)) (routes_by draft routes (drop (i + 1) new)) (d.vehicle, drafted routes d) _ _ _ so_far.asks next e.whole;
      asked_to = asked_to_next s routes (routes_by draft routes new) (routes_by draft routes (drop i new)) (routes_by draft routes (drop (i + 1) new)) (d.vehicle, drafted routes d) _ _ _ so_far.asked_to next e.fits e.whole;
    }

pub returns : goal.returns
returns g c =
    let s = setting c.args.setup.now in
    let routes = c.args.plan.now.routes in
    let draft = g.R.NewRoute.draft in
    let new = c.args.new_routes.now in
    let end = ap (λ xs. routes_by draft routes xs) (drop_all c.loop-k.k new c.loop-k-test.false) in
    let counted : c.loop-k.k ≡ length new = omega (arith, c.loop-k-test.false, c.loop-k.auto.k-end) in
    let asked = asked_all (length s.dimensions) routes (routes_by draft routes new) _ _ _ c.loop-k.invariant.asks end in
    record {
      fits = rest_none s _ _ c.loop-k.invariant.rest end;
      fresh = subst (λ n. AreFreshOf draft s routes new c.loop-k.room.fresh.items n) counted c.loop-k.invariant.fresh;
      held = c.loop-k.invariant.sized;
      fault = tt;
      asks = asks_few _ _ _ asked;
      whole = asked;
      least = tt;
      missed = tt;
    }
