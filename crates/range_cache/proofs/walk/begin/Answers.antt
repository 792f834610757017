use Rattle.dimension_core.specs.Setup.{setting}
use Rattle.range_cache.proofs.Tracks.{start_at}
use Rattle.range_cache.proofs.Walking.{in_list, offset_fits, some_kept, last_below, last_within, capped_there, begun_none, begun_first, begun_last}
use Rattle.range_cache.proofs.walk.begin.Goals as goal

pub offset_bounds-dimensions-dimension : goal.offset_bounds-dimensions-dimension
offset_bounds-dimensions-dimension g c = offset_fits _ _ c.requires.dimension c.dimensions.ensures.sound.few

pub bounds-dimensions-dimension : goal.bounds-dimensions-dimension
bounds-dimensions-dimension g c = in_list _ _ _ c.dimensions.ensures.value c.requires.dimension

pub start-requires : goal.start-requires
start-requires g c = record {
  low = c.requires.low;
  high = capped_there (setting c.args.setup.now) c.args.axis.dimension c.dimensions.result.now c.index-dimensions-dimension.result c.dimensions.ensures.sound c.dimensions.ensures.value c.requires.dimension
      c.index-dimensions-dimension.is c.args.axis.vehicle c.requires.high;
}

pub returns-in_err-start : goal.returns-in_err-start
returns-in_err-start g c =
    let s = setting c.args.setup.now in
    let all = begun_none s c.args.axis.dimension c.args.axis.vehicle c.args.route.now _ _ c.from_residual.ensures
    (start_at c.spans_go_on.ensures s _ _ _ _ _ c.dimensions.ensures.value c.requires.dimension c.index-dimensions-dimension.is c.in_err-start.ensures.span) in
    record { span = all.span; node = all.node; known = all.known; small = all.small }

pub returns-then-is_empty : goal.returns-then-is_empty
returns-then-is_empty g c =
    let s = setting c.args.setup.now in
    let all = begun_first s c.args.axis.dimension c.args.axis.vehicle c.args.route.now _ _ _ c.is_empty.ensures c.if-is_empty.true
    (start_at c.spans_go_on.ensures s _ _ _ _ _ c.dimensions.ensures.value c.requires.dimension c.index-dimensions-dimension.is c.in_ok-start.ensures.span) c.in_ok-start.ensures.small in
    record { span = all.span; node = all.node; known = all.known; small = all.small }

pub overflow_sub-last : goal.overflow_sub-last
overflow_sub-last g c = some_kept _ _ c.is_empty.ensures c.if-is_empty.false

pub bounds-kept-last : goal.bounds-kept-last
bounds-kept-last g c = last_below _ (some_kept _ _ c.is_empty.ensures c.if-is_empty.false)

pub bounds-route-last : goal.bounds-route-last
bounds-route-last g c = last_within _ _ (some_kept _ _ c.is_empty.ensures c.if-is_empty.false) c.requires.kept.within

pub returns : goal.returns
returns g c =
    let all = begun_last c.spans_go_on.ensures (setting c.args.setup.now) c.args.axis.dimension c.args.axis.vehicle c.args.route.now c.args.kept.now c.dimensions.result.now c.index-dimensions-dimension.result
    c.dimensions.ensures.sound c.dimensions.ensures.value c.requires.dimension c.index-dimensions-dimension.is c.spans_are_small.ensures c.requires.known c.requires.kept
    (some_kept _ _ c.is_empty.ensures c.if-is_empty.false) in
    record { span = all.span; node = all.node; known = all.known; small = all.small }
