use Rattle.std.proofs.Common.{ℕ, ◌*◌, ◌+◌, ◌≤◌, ◌∙◌, length, take, drop, sym, ap, subst}
use Rattle.std.specs.Prelude.{vec_capacity}
use Rattle.dimension_core.specs.Setup.{setting}
use Rattle.range_cache.specs.Cache.{RowState}
use Rattle.range_cache.proofs.Changing.{few_ranges, in_place, ranges_fit, room_first, stops_fit, stops_wide}
use Rattle.range_cache.proofs.Joins.{IsPart, all_joined, first_fits, join_more, last_fits, room_still}
use Rattle.range_cache.proofs.Rows.{filled_none, part_long, part_within}
use Rattle.range_cache.proofs.Walking.{no_less}
use Rattle.range_cache.proofs.row.Row.join.Goals as goal

pub loop-dimension-preserved : goal.loop-dimension-preserved
loop-dimension-preserved g c =
    let i = c.loop-dimension.invariant in
    let r = c.requires in
    let rest = ap (λ (row : RowState). row.stops) c.fresh.view_is in
    let last = c.front-in-loop-dimension.ensures ∙ ap (λ (n : ℕ). take n (drop (c.loop-dimension.dimension * c.args.fresh.now.stops) c.args.fresh.now.ranges)) rest in
    let here = in_place c.loop-dimension.dimension _ _ c.dimensions-dimensions.ensures.value c.loop-dimension-test.true in
    record {
      counted = i.counted;
      filled = join_more c.loop-dimension.dimension _ c.args.front c.args.self.now c.args.fresh.now r.within r.sized r.fresh here _ _ c.front.ensures last
          c.loop-dimension.row-inside.ranges.items c.append_part.new.list.items c.append_part-in-loop-dimension.new.list.items i.filled c.in_ok-append_part.ensures.items c.in_ok-append_part-2.ensures.items;
      room = room_still (length (setting c.args.setup.now).dimensions * (c.args.front + c.args.fresh.now.stops)) (vec_capacity c.loop-dimension.row-inside.ranges) (vec_capacity c.append_part.new.list)
          (vec_capacity c.append_part-in-loop-dimension.new.list) i.room c.append_part.ensures.capacity c.append_part-in-loop-dimension.ensures.capacity;
    }

pub overflow_add-row : goal.overflow_add-row
overflow_add-row g c =
    let short = subst (λ (r : RowState). c.args.front + r.stops ≤ 1000) (sym c.fresh.view_is) c.requires.short in
    stops_wide _ short

pub overflow_add-front : goal.overflow_add-front
overflow_add-front g c =
    let short = subst (λ (r : RowState). c.args.front + r.stops ≤ 1000) (sym c.fresh.view_is) c.requires.short in
    stops_wide _ short

pub overflow_cast-row : goal.overflow_cast-row
overflow_cast-row g c =
    let short = subst (λ (r : RowState). c.args.front + r.stops ≤ 1000) (sym c.fresh.view_is) c.requires.short in
    stops_fit _ short

pub overflow_mul-dimensions : goal.overflow_mul-dimensions
overflow_mul-dimensions g c =
    let short = subst (λ (r : RowState). c.args.front + r.stops ≤ 1000) (sym c.fresh.view_is) c.requires.short in
    ranges_fit _ _ _ c.dimensions-dimensions.ensures.value c.dimensions-dimensions.ensures.sound.few short

pub make_room-requires : goal.make_room-requires
make_room-requires g c =
    let short = subst (λ (r : RowState). c.args.front + r.stops ≤ 1000) (sym c.fresh.view_is) c.requires.short in
    few_ranges _ _ _ c.dimensions-dimensions.ensures.value c.dimensions-dimensions.ensures.sound.few short

pub loop-dimension-init : goal.loop-dimension-init
loop-dimension-init g c =
    record {
      counted = ap (λ (r : RowState). c.args.front + r.stops) c.fresh.view_is;
      filled = filled_none (IsPart c.args.front c.args.self.now c.args.fresh.now) (c.args.front + c.args.fresh.now.stops) _ c.in_ok-make_room.ensures.items;
      room = subst (λ (r : RowState). length (setting c.args.setup.now).dimensions * (c.args.front + r.stops) ≤ vec_capacity c.make_room.new.ranges) c.fresh.view_is
          (room_first _ _ _ _ c.dimensions-dimensions.ensures.value c.in_ok-make_room.ensures.room);
    }

pub front-requires : goal.front-requires
front-requires g c =
    let here = in_place c.loop-dimension.dimension _ _ c.dimensions-dimensions.ensures.value c.loop-dimension-test.true in
    part_within c.args.self.now _ c.loop-dimension.dimension c.args.front c.requires.within c.requires.sized here

pub front-requires-in-loop-dimension : goal.front-requires-in-loop-dimension
front-requires-in-loop-dimension g c =
    let here = in_place c.loop-dimension.dimension _ _ c.dimensions-dimensions.ensures.value c.loop-dimension-test.true in
    let all = part_within c.args.fresh.now _ c.loop-dimension.dimension c.args.fresh.now.stops (no_less _) c.requires.fresh here in
    subst (λ (n : ℕ). c.loop-dimension.dimension * c.args.fresh.now.stops + n ≤ length c.args.fresh.now.ranges) (sym (ap (λ (r : RowState). r.stops) c.fresh.view_is)) all

pub append_part-requires : goal.append_part-requires
append_part-requires g c =
    let here = in_place c.loop-dimension.dimension _ _ c.dimensions-dimensions.ensures.value c.loop-dimension-test.true in
    let long = part_long c.args.self.now _ c.loop-dimension.dimension c.args.front _ c.requires.within c.requires.sized here c.front.ensures in
    let i = c.loop-dimension.invariant in
    record { room = first_fits _ c.loop-dimension.dimension _ c.args.front c.args.fresh.now.stops _ _ here (c.loop-dimension.row-inside.ranges.ok.0 ∙ i.filled.sized) i.room long }

pub append_part-requires-in-loop-dimension : goal.append_part-requires-in-loop-dimension
append_part-requires-in-loop-dimension g c =
    let here = in_place c.loop-dimension.dimension _ _ c.dimensions-dimensions.ensures.value c.loop-dimension-test.true in
    let long = part_long c.args.self.now _ c.loop-dimension.dimension c.args.front _ c.requires.within c.requires.sized here c.front.ensures in
    let i = c.loop-dimension.invariant in
    let fresh = c.args.fresh.now in
    let rest = ap (λ (row : RowState). row.stops) c.fresh.view_is in
    let part = c.front-in-loop-dimension.ensures ∙ ap (λ (n : ℕ). take n (drop (c.loop-dimension.dimension * fresh.stops) fresh.ranges)) rest in
    let last = part_long fresh _ c.loop-dimension.dimension fresh.stops _ (no_less _) c.requires.fresh here part in
    record {
      room = last_fits _ c.loop-dimension.dimension _ c.args.front fresh.stops _ _ _ _ _ here (c.loop-dimension.row-inside.ranges.ok.0 ∙ i.filled.sized) i.room long
          c.in_ok-append_part.ensures.len last c.append_part.ensures.capacity;
    }

pub returns : goal.returns
returns g c =
    let i = c.loop-dimension.invariant in
    all_joined c.args.front c.args.self.now c.args.fresh.now (record { stops = c.loop-dimension.row-inside.stops; ranges = c.loop-dimension.row-inside.ranges.items }) c.loop-dimension.dimension
    c.dimensions-dimensions.result.now _ c.dimensions-dimensions.ensures.value c.loop-dimension-test.false c.loop-dimension.auto.dimension-end i.counted i.filled
