use Rattle.std.proofs.Common.{length, refl}
use Rattle.callback_store.specs.Meter.{no_ask}
use Rattle.dimension_core.specs.Setup.{setting}
use Rattle.range_cache.proofs.Caches.{made_more, made_all}
use Rattle.range_cache.proofs.FirstAsks.{asks_next, asks_some, asks_all, asks_stop}
use Rattle.range_cache.proofs.Opening.{few_fit, next_fits, some_next, next_most, below_as, all_counted, opened_none, first_made, first_asked, end_as}
use Rattle.range_cache.proofs.cache.Cache.of.Goals as goal

pub overflow_cast-vehicles : goal.overflow_cast-vehicles
overflow_cast-vehicles g c = few_fit _ _ c.vehicles.ensures.value c.vehicles.ensures.sound.few_vehicles

pub returns-in_err-rows : goal.returns-in_err-rows
returns-in_err-rows g c =
    let all = opened_none (setting c.args.setup.now) c.args.plan.now.routes _ _ _ _ c.from_residual.ensures.1 (no_ask c.args.meter.now _) in
    record { cache = all.cache; asks = all.asks; whole = all.whole }

pub loop-before-init : goal.loop-before-init
loop-before-init g c = record {
  made = first_made (setting c.args.setup.now) c.args.plan.now.routes _ c.in_ok-rows.ensures.items;
  asks = first_asked _ _ _ refl;
}

pub overflow_add-before : goal.overflow_add-before
overflow_add-before g c = next_fits _ _ _ c.loop-before-test.true c.vehicles-before-end.ensures.value c.vehicles-before-end.ensures.sound.few_vehicles

pub first_row-requires : goal.first_row-requires
first_row-requires g c = record {
  customers = c.requires.customers;
  vehicles = c.requires.vehicles;
  feasible = c.requires.feasible;
  low = some_next _;
  high = next_most _ _ _ c.loop-before-test.true c.vehicles-before-end.ensures.value;
}

pub returns-in_err-first_row : goal.returns-in_err-first_row
returns-in_err-first_row g c =
    let s = setting c.args.setup.now in
    let within = below_as c.loop-before.before _ s.vehicles (length c.args.plan.now.routes) c.loop-before-test.true c.vehicles-before-end.ensures.value c.requires.vehicles in
    let all = opened_none s c.args.plan.now.routes _ _ _ _ c.from_residual-in_err-first_row.ensures.1
    (asks_stop (length s.dimensions) c.args.plan.now.routes c.loop-before.before _ _ _ within c.loop-before.invariant.asks c.first_row.ensures.asks) in
    record { cache = all.cache; asks = all.asks; whole = all.whole }

pub returns-in_err-push : goal.returns-in_err-push
returns-in_err-push g c =
    let s = setting c.args.setup.now in
    let within = below_as c.loop-before.before _ s.vehicles (length c.args.plan.now.routes) c.loop-before-test.true c.vehicles-before-end.ensures.value c.requires.vehicles in
    let all = opened_none s c.args.plan.now.routes _ _ _ _ c.from_residual-in_err-push.ensures.1
    (asks_stop (length s.dimensions) c.args.plan.now.routes c.loop-before.before _ _ _ within c.loop-before.invariant.asks c.first_row.ensures.asks) in
    record { cache = all.cache; asks = all.asks; whole = all.whole }

pub loop-before-preserved : goal.loop-before-preserved
loop-before-preserved g c =
    let s = setting c.args.setup.now in
    let within = below_as c.loop-before.before _ s.vehicles (length c.args.plan.now.routes) c.loop-before-test.true c.vehicles-before-end.ensures.value c.requires.vehicles in
    record {
      made = rw c.in_ok-push.ensures.items (made_more _ _ _ _ _ c.loop-before.invariant.made c.in_ok-first_row.ensures.row);
      asks = asks_next (length s.dimensions) c.args.plan.now.routes c.loop-before.before _ _ _ within c.loop-before.invariant.asks c.in_ok-first_row.ensures.whole;
    }

pub returns : goal.returns
returns g c =
    let s = setting c.args.setup.now in
    let i = c.loop-before.invariant in
    let counted = all_counted c.loop-before.before _ s.vehicles c.vehicles-before-end.ensures.value c.loop-before-test.false c.loop-before.auto.before-end in
    record {
      cache = made_all s c.args.plan.now.routes c.loop-before.before _ c.requires.vehicles counted i.made;
      asks = asks_some (length s.dimensions) c.args.plan.now.routes c.loop-before.before _ _ i.asks;
      whole = asks_all (length s.dimensions) c.args.plan.now.routes c.loop-before.before _ _ (end_as _ _ _ c.requires.vehicles counted) i.asks;
    }
