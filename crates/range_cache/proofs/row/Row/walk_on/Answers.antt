use Rattle.std.proofs.Common.{◌∙◌, ◌*◌, ◌++◌, length, refl, below_more}
use Rattle.std.specs.Prelude.{vec_capacity}
use Rattle.std.proofs.lemmas.Result.{err_from_is_err_and}
use Rattle.callback_store.specs.Meter.{no_ask}
use Rattle.dimension_core.specs.Setup.{setting}
use Rattle.range_cache.proofs.Changing.{stops_fit, few_ranges, ranges_fit, place_fits, count_fits, in_place, part_short, both_fit, some_route, no_memory, nothing_left, all_filled, room_first, room_kept, fits_none, none_first}
use Rattle.range_cache.proofs.Misses.{row_missed}
use Rattle.range_cache.proofs.Rows.{IsFound, filled_none, front_track, part_long, part_within, out_at, asks_more, asks_out, asks_stop, ranges_more, room_for}
use Rattle.range_cache.proofs.row.Row.walk_on.Goals as goal

pub overflow_add-stops : goal.overflow_add-stops
overflow_add-stops g c = both_fit _ _ c.requires.short

pub overflow_cast-fresh : goal.overflow_cast-fresh
overflow_cast-fresh g c = stops_fit _ (part_short c.args.before.now c.args.after.now c.requires.short)

pub overflow_mul-count : goal.overflow_mul-count
overflow_mul-count g c = ranges_fit _ _ _ c.dimensions-count.ensures.value c.dimensions-count.ensures.sound.few (part_short c.args.before.now c.args.after.now c.requires.short)

pub clear_for-requires : goal.clear_for-requires
clear_for-requires g c = few_ranges _ _ _ c.dimensions-count.ensures.value c.dimensions-count.ensures.sound.few (part_short c.args.before.now c.args.after.now c.requires.short)

pub returns-in_err-clear_for : goal.returns-in_err-clear_for
returns-in_err-clear_for g c =
    let route = c.args.before.now ++ c.args.after.now in
    let all = no_memory (setting c.args.setup.now) c.args.vehicle c.args.before.now route _ _ _ _ (err_from_is_err_and c.from_residual.result c.from_residual.ensures.1) (no_ask c.args.meter.now _) in
    record { fits = all.fits; tail = all.row; fault = all.fault; asks = all.asks; whole = all.whole; least = all.least; missed = all.missed }

pub loop-dimension-init : goal.loop-dimension-init
loop-dimension-init g c =
    let s = setting c.args.setup.now in
    let route = c.args.before.now ++ c.args.after.now in
    record {
      counted = refl;
      filled = filled_none (IsFound s c.args.vehicle (length c.args.before.now) route) (length c.args.after.now) _ c.in_ok-clear_for.ensures.items;
      room = room_first (length c.args.after.now) _ _ _ c.dimensions-count.ensures.value c.in_ok-clear_for.ensures.room;
      fits = fits_none s c.args.vehicle route;
      asks = none_first _ _;
    }

pub front-kept-requires : goal.front-kept-requires
front-kept-requires g c =
    let here = in_place c.loop-dimension.dimension _ _ c.dimensions-count.ensures.value c.loop-dimension-test.true in
    part_within c.args.self.now _ c.loop-dimension.dimension _ c.requires.front.stops c.requires.front.sized here

pub walk-requires : goal.walk-requires
walk-requires g c =
    let s = setting c.args.setup.now in
    let i = c.loop-dimension.invariant in
    let here = in_place c.loop-dimension.dimension _ _ c.dimensions-count.ensures.value c.loop-dimension-test.true in
    let route = c.args.before.now ++ c.args.after.now in
    record {
      low = c.requires.low;
      high = c.requires.high;
      dimension = here;
      some = some_route c.args.before.now c.args.after.now c.if-stops-eq0.false;
      known = c.requires.known;
      each = part_long c.args.self.now _ c.loop-dimension.dimension _ _ c.requires.front.stops c.requires.front.sized here c.front-kept.ensures;
      kept = front_track s c.args.vehicle route c.args.self.now c.loop-dimension.dimension (length c.args.before.now) _ c.requires.front here c.front-kept.ensures;
      room = room_for _ c.loop-dimension.dimension _ (length c.args.after.now) here _ (c.loop-dimension.fresh-inside.ranges.ok.0 ∙ i.filled.sized) i.room;
    }

pub overflow_cast-result : goal.overflow_cast-result
overflow_cast-result g c = place_fits _ _ _ c.dimensions-count.ensures.value c.dimensions-count.ensures.sound.few c.loop-dimension-test.true

pub overflow_add-result : goal.overflow_add-result
overflow_add-result g c = count_fits _ _ _ c.dimensions-count.ensures.value c.dimensions-count.ensures.sound.few c.loop-dimension-test.true

pub returns-then-not-walk : goal.returns-then-not-walk
returns-then-not-walk g c =
    let s = setting c.args.setup.now in
    let i = c.loop-dimension.invariant in
    let before = c.args.before.now in
    let after = c.args.after.now in
    let here = in_place c.loop-dimension.dimension _ _ c.dimensions-count.ensures.value c.loop-dimension-test.true in
    let some = some_route before after c.if-stops-eq0.false in
    record {
      fits = tt;
      tail = tt;
      fault = (refl, out_at s c.args.vehicle c.loop-dimension.dimension (before ++ after) _ here i.fits c.walk.ensures.bounds c.if-not-walk.true);
      asks = asks_stop _ _ _ c.loop-dimension.dimension before after some i.asks (length s.dimensions) here c.walk.ensures.asks;
      whole = tt;
      least = asks_out _ _ _ c.loop-dimension.dimension before after some i.asks (length s.dimensions) here c.walk.ensures.asks;
      missed = row_missed s c.args.vehicle c.loop-dimension.dimension before after _ _ _ i.asks (c.walk.ensures.missed c.if-not-walk.true);
    }

pub loop-dimension-preserved : goal.loop-dimension-preserved
loop-dimension-preserved g c =
    let s = setting c.args.setup.now in
    let i = c.loop-dimension.invariant in
    let before = c.args.before.now in
    let after = c.args.after.now in
    let some = some_route before after c.if-stops-eq0.false in
    record {
      counted = i.counted;
      filled = ranges_more s c.args.vehicle (length before) (length after) (before ++ after) c.loop-dimension.dimension _ _ i.filled (c.walk.ensures.ranges c.if-not-walk.false);
      room = room_kept (length s.dimensions * length after) (vec_capacity c.loop-dimension.fresh-inside.ranges) (vec_capacity c.walk.new.ranges) i.room c.walk.ensures.capacity;
      fits = below_more _ _ i.fits (c.walk.ensures.bounds.0 c.if-not-walk.false);
      asks = asks_more _ _ _ c.loop-dimension.dimension before after some i.asks (c.walk.ensures.whole c.if-not-walk.false);
    }

pub returns-then-stops-eq0 : goal.returns-then-stops-eq0
returns-then-stops-eq0 g c =
    let all = nothing_left (setting c.args.setup.now) c.args.vehicle c.args.before.now c.args.after.now c.args.meter.now _ c.if-stops-eq0.true c.in_ok-clear_for.ensures.items in
    record { fits = all.fits; tail = all.row; fault = tt; asks = all.asks; whole = all.whole; least = tt; missed = tt }

pub returns : goal.returns
returns g c =
    let i = c.loop-dimension.invariant in
    let all = all_filled (setting c.args.setup.now) c.args.vehicle c.args.before.now c.args.after.now _ _ (record { stops = c.loop-dimension.fresh-inside.stops; ranges = c.loop-dimension.fresh-inside.ranges.items }) c.loop-dimension.dimension
    c.dimensions-count.result.now c.dimensions-count.ensures.value c.loop-dimension-test.false c.loop-dimension.auto.dimension-end i.counted i.filled i.fits i.asks in
    record { fits = all.fits; tail = all.row; fault = tt; asks = all.asks; whole = all.whole; least = tt; missed = tt }
