use Rattle.std.proofs.Common.{◌<◌, slice_index_or, ◌+◌, ◌++◌, ◌∙◌, ℕ, List, [], refl, ap, sym, subst, length, take}
use Rattle.callback_store.specs.Meter.{AsksJust}
use Rattle.callback_store.specs.declared.meter.Meter.{Meter}
use Rattle.std.specs.Prelude.{vec_len, vec_capacity}
use Rattle.std.proofs.lemmas.List.{append-nil}
use Rattle.dimension_core.specs.Cumuls.{last_of}
use Rattle.dimension_core.specs.Setup.{setting}
use Rattle.dimension_core.specs.Spans.{IsSpanOf}
use Rattle.dimension_core.specs.declared.range.Range.{Range}
use Rattle.range_cache.proofs.Tracks.{next_at, back_at, return_at, after_at, more_push, track_none, track_first}
use Rattle.range_cache.proofs.Walking.{in_list, offset_fits, none_least, no_less, room_first, room_next, room_left, same_room, asked_there, answered, known_there, within_route, past_route, node_there, one_after, front_within, known_first, known_next, whole_first, walked_none, walked_to, walked_all}
use Rattle.range_cache.proofs.walk.walk_by.Goals as goal

pub begin-requires : goal.begin-requires
begin-requires g c =
    let r = c.requires in
    let s = setting c.args.setup.now in
    let course = c.args.course.now in
    record {
      low = r.low;
      high = r.high;
      dimension = r.dimension;
      known = known_first s.customers course.before.now course.after.now r.known;
      kept = track_first s c.args.axis.dimension c.args.axis.vehicle course.before.now course.after.now course.kept.now r.each r.kept;
    }

pub returns-in_default : goal.returns-in_default
returns-in_default g c =
    let course = c.args.course.now in
    let all = walked_none c.spans_go_on.ensures c.misses_are_found.ensures (setting c.args.setup.now) c.args.axis.dimension c.args.axis.vehicle course.before.now course.after.now
    c.args.ranges.now.items c.args.ranges.now.items c.args.meter.now c.requires.some c.in_default.ensures.span in
    record { bounds = all.bounds; ranges = all.ranges; capacity = no_less _; asks = all.asks; whole = all.whole; missed = all.missed }

pub offset_bounds-dimensions-dimension : goal.offset_bounds-dimensions-dimension
offset_bounds-dimensions-dimension g c = offset_fits _ _ c.requires.dimension c.dimensions.ensures.sound.few

pub bounds-dimensions-dimension : goal.bounds-dimensions-dimension
bounds-dimensions-dimension g c = in_list _ _ _ c.dimensions.ensures.value c.requires.dimension

pub loop-place-init : goal.loop-place-init
loop-place-init g c =
    let s = setting c.args.setup.now in
    let course = c.args.course.now in
    let begun = c.in-Some.ensures in
    let whole = whole_first course.before.now course.after.now (length course.kept.now) c.requires.each in
    record {
      more = ([], sym (append-nil c.args.ranges.now.items), refl, track_none s c.args.axis.dimension c.args.axis.vehicle (length course.before.now) (course.before.now ++ course.after.now) (front_within course.before.now course.after.now));
      span = subst (λ (js : List ℕ). IsSpanOf s c.args.axis.dimension c.args.axis.vehicle js c.in-Some.range) whole begun.span;
      last = begun.node ∙ ap (λ (js : List ℕ). last_of 0 js) whole;
      small = begun.small;
      room = room_first _ _ _ c.requires.room;
      capacity = no_less _;
      known = begun.known;
      told = refl;
    }

pub bounds-after-place : goal.bounds-after-place
bounds-after-place g c = c.loop-place-test.true

pub answer_way-way-requires : goal.answer_way-way-requires
answer_way-way-requires g c =
    let s = setting c.args.setup.now in
    let course = c.args.course.now in
    record {
      from = asked_there _ _ _ c.requires.nodes c.loop-place.invariant.known;
      to = asked_there _ _ _ c.requires.nodes (known_next s.customers course.before.now course.after.now c.requires.known c.loop-place.place 0 c.loop-place-test.true);
    }

pub range_after-requires : goal.range_after-requires
range_after-requires g c =
    let i = c.loop-place.invariant in
    record {
      filled = i.span.filled;
      range = i.small;
      way = c.answer_way-way.ensures.small;
      slack = c.slack_max-slack_max.ensures.small;
      cap = c.cap-cap.ensures.small;
    }

pub returns-in_default-range_after : goal.returns-in_default-range_after
returns-in_default-range_after g c =
    let s = setting c.args.setup.now in
    let before = c.args.course.now.before.now in
    let after = c.args.course.now.after.now in
    let i = c.loop-place.invariant in
    let none = next_at c.spans_go_on.ensures s c.args.axis.dimension c.args.axis.vehicle (before ++ after) (length before + c.loop-place.place) _ _ _ _ _ _ _
    refl c.dimensions.ensures.value c.requires.dimension c.index-dimensions-dimension.is i.span i.last (after_at _ _ _ _ _ _ _ _ _ _ _ c.in_default-range_after.ensures.span c.ranges-nodes.ensures c.slack_max-slack_max.ensures.value c.cap-cap.ensures.value (answered s c.args.axis.dimension c.dimensions.result.now c.index-dimensions-dimension.result c.dimensions.ensures.sound c.dimensions.ensures.value c.requires.dimension c.index-dimensions-dimension.is _ _ _ _ c.answer_way-way.ensures.answer c.requires.answers))
    (within_route before after c.loop-place.place c.loop-place-test.true) (node_there before after c.loop-place.place 0) in
    let asked = subst (λ (m : Meter). AsksJust m c.ask_many.new.self (c.loop-place.place + 1)) i.told c.ask_many.ensures.just in
    let all = walked_to s c.args.axis.dimension c.args.axis.vehicle before after c.args.ranges.now.items c.loop-place.ranges.items _ _
    c.spans_go_on.ensures c.misses_are_found.ensures c.loop-place.place _ c.requires.some c.loop-place-test.true i.span none asked in
    record { bounds = all.bounds; ranges = all.ranges; capacity = i.capacity; asks = all.asks; whole = all.whole; missed = all.missed }

pub bounds-nodes-node : goal.bounds-nodes-node
bounds-nodes-node g c =
    let s = setting c.args.setup.now in
    let course = c.args.course.now in
    let node = slice_index_or course.after.now c.loop-place.place 0 in
    subst (λ (xs : List Range). node < length xs) (sym c.ranges-nodes.ensures)
    (known_there s c.args.axis.dimension c.dimensions.result.now c.index-dimensions-dimension.result c.dimensions.ensures.sound c.dimensions.ensures.value c.requires.dimension c.index-dimensions-dimension.is
    node (known_next s.customers course.before.now course.after.now c.requires.known c.loop-place.place 0 c.loop-place-test.true))

pub push_reserved-requires : goal.push_reserved-requires
push_reserved-requires g c = room_left _ _ _ _ c.loop-place.invariant.room c.loop-place-test.true

pub loop-place-preserved : goal.loop-place-preserved
loop-place-preserved g c =
    let s = setting c.args.setup.now in
    let before = c.args.course.now.before.now in
    let after = c.args.course.now.after.now in
    let place = c.loop-place.place in
    let i = c.loop-place.invariant in
    let within = within_route before after place c.loop-place-test.true in
    let next = next_at c.spans_go_on.ensures s c.args.axis.dimension c.args.axis.vehicle (before ++ after) (length before + place) _ _ _ _ _ _ _
    refl c.dimensions.ensures.value c.requires.dimension c.index-dimensions-dimension.is i.span i.last (after_at _ _ _ _ _ _ _ _ _ _ _ c.in-Some-range_after.ensures.span c.ranges-nodes.ensures c.slack_max-slack_max.ensures.value c.cap-cap.ensures.value (answered s c.args.axis.dimension c.dimensions.result.now c.index-dimensions-dimension.result c.dimensions.ensures.sound c.dimensions.ensures.value c.requires.dimension c.index-dimensions-dimension.is _ _ _ _ c.answer_way-way.ensures.answer c.requires.answers))
    within (node_there before after place 0) in
    let one = one_after before after place in
    record {
      more = more_push s c.args.axis.dimension c.args.axis.vehicle (length before) (before ++ after) place _ _ _ _ within i.more c.push_reserved.ensures.items next;
      span = subst (λ (n : ℕ). IsSpanOf s c.args.axis.dimension c.args.axis.vehicle (take n (before ++ after)) c.in-Some-range_after.next) one next;
      last = node_there before after place 0 ∙ c.spans_go_on.ensures.last (before ++ after) (length before + place) within ∙ ap (λ (n : ℕ). last_of 0 (take n (before ++ after))) one;
      room = room_next (vec_len c.loop-place.ranges) _ (vec_capacity c.loop-place.ranges) _ (length after) place i.room c.push_reserved.ensures.len c.push_reserved.ensures.capacity;
      capacity = same_room _ _ _ i.capacity c.push_reserved.ensures.capacity;
      small = c.in-Some-range_after.ensures.small;
      known = known_next s.customers before after c.requires.known place 0 c.loop-place-test.true;
      told = i.told;
    }

pub answer_way-back-requires : goal.answer_way-back-requires
answer_way-back-requires g c = record {
  from = asked_there _ _ _ c.requires.nodes c.loop-place.invariant.known;
  to = asked_there _ _ _ c.requires.nodes (none_least _);
}

pub range_after-end-requires : goal.range_after-end-requires
range_after-end-requires g c =
    let i = c.loop-place.invariant in
    record {
      filled = i.span.filled;
      range = i.small;
      way = c.answer_way-back.ensures.small;
      slack = c.slack_max-slack_max.ensures.small;
      cap = c.cap-cap.ensures.small;
    }

pub returns : goal.returns
returns g c =
    let s = setting c.args.setup.now in
    let before = c.args.course.now.before.now in
    let after = c.args.course.now.after.now in
    let place = c.loop-place.place in
    let i = c.loop-place.invariant in
    let end = past_route before after place c.loop-place-test.false in
    let after_span = after_at _ _ _ _ _ _ _ _ _ _ _ c.range_after-end.ensures.span c.ranges-nodes.ensures c.slack_max-slack_max.ensures.value c.cap-cap.ensures.value (answered s c.args.axis.dimension c.dimensions.result.now c.index-dimensions-dimension.result c.dimensions.ensures.sound c.dimensions.ensures.value c.requires.dimension c.index-dimensions-dimension.is _ _ _ _ c.answer_way-back.ensures.answer c.requires.answers) in
    let back = back_at c.spans_go_on.ensures s c.args.axis.dimension c.args.axis.vehicle (before ++ after) (length before + place) _ _ _ _ _ _ _
    refl c.dimensions.ensures.value c.requires.dimension c.index-dimensions-dimension.is i.span i.last after_span end refl in
    let answer = return_at c.spans_go_on.ensures s c.args.axis.dimension c.args.axis.vehicle (before ++ after) (length before + place) _ _ _ _ _ _ _
    refl c.dimensions.ensures.value c.requires.dimension c.index-dimensions-dimension.is i.span i.last after_span end c.requires.some refl in
    let asked = subst (λ (m : Meter). AsksJust m c.ask_many-2.new.self (length after + 1)) i.told c.ask_many-2.ensures.just in
    let all = walked_all s c.args.axis.dimension c.args.axis.vehicle before after c.args.ranges.now.items c.loop-place.ranges.items _ _
    c.misses_are_found.ensures place _ _ _ c.loop-place-test.false c.loop-place.auto.place-end c.is_some.ensures answer back i.span i.more asked in
    record { bounds = all.bounds; ranges = all.ranges; capacity = i.capacity; asks = all.asks; whole = all.whole; missed = all.missed }
