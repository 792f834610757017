use Rattle.std.proofs.Common.{arith, ◌-◌, ◌<◌, ◌∙◌, sym, length, reverse, slice_index}
use Rattle.std.proofs.lemmas.List.{get_or-reverse, length-reverse}
use Rattle.route_parts.proofs.Carried.{after_by, asked_node, in_ranges, append_nil, carry_more, carry_last, carry_none, carry_end}
use Rattle.route_parts.proofs.Keeping.{from_end}
use Rattle.route_parts.proofs.Counts.{some_above, before_last, nearer_end}
use Rattle.route_parts.proofs.fits.carry_back.Goals as goal

pub loop-k-init : goal.loop-k-init
loop-k-init g c = record {
  span = λ done s e. rw (append_nil c.requires.laws done) (s, e);
  known = c.requires.from;
  filled = c.requires.filled;
  small = c.requires.small;
}

pub answer_way-way-requires : goal.answer_way-way-requires
answer_way-way-requires g c = record {
  from = asked_node _ _ _ c.requires.sized c.loop-k.invariant.known;
  to = asked_node _ _ _ c.requires.sized (c.requires.known (length c.args.nodes.now - 1 - c.loop-k.k) 0 (from_end c.loop-k.k _ c.loop-k-test.true));
}

pub bounds-ranges-node : goal.bounds-ranges-node
bounds-ranges-node g c = in_ranges _ _ _ c.requires.lane.ranges (c.requires.known (length c.args.nodes.now - 1 - c.loop-k.k) 0 (from_end c.loop-k.k _ c.loop-k-test.true))

pub range_after-requires : goal.range_after-requires
range_after-requires g c = record {
  filled = c.loop-k.invariant.filled;
  range = c.loop-k.invariant.small;
  way = c.answer_way-way.ensures.small;
  slack = c.requires.lane.little;
  cap = c.requires.lane.small;
}

pub returns-in_err-range : goal.returns-in_err-range
returns-in_err-range g c = record {
  span = λ done s e.
      let i = c.loop-k.invariant.span done s e in
      let h = c.loop-k-test.true in
      let b : c.loop-k.k < length (reverse c.args.nodes.now) = let l = length-reverse c.args.nodes.now in omega arith in
      let n = after_by _ _ _ _ _ _ _ _ _ _ _ c.in_err-range.ensures.span c.requires.lane.ranges c.requires.lane.slack c.requires.lane.cap c.answer_way-way.ensures.answer in
      rw c.from_residual.ensures
      (carry_none c.requires.laws _ _ _ done (reverse c.args.nodes.now) _ (carry_more c.requires.laws _ _ _ done (reverse c.args.nodes.now) c.loop-k.k _ _ _ b i.0 i.1 (rw (get_or-reverse c.args.nodes.now c.loop-k.k 0 h) n)));
  filled = rw c.from_residual.ensures tt;
  small = rw c.from_residual.ensures tt;
  known = rw c.from_residual.ensures tt;
}

pub loop-k-preserved : goal.loop-k-preserved
loop-k-preserved g c = record {
  span = λ done s e.
      let i = c.loop-k.invariant.span done s e in
      let h = c.loop-k-test.true in
      let b : c.loop-k.k < length (reverse c.args.nodes.now) = let l = length-reverse c.args.nodes.now in omega arith in
      let n = after_by _ _ _ _ _ _ _ _ _ _ _ c.in_ok-range.ensures.span c.requires.lane.ranges c.requires.lane.slack c.requires.lane.cap c.answer_way-way.ensures.answer in (
        carry_more c.requires.laws _ _ _ done (reverse c.args.nodes.now) c.loop-k.k _ _ _ b i.0 i.1 (rw (get_or-reverse c.args.nodes.now c.loop-k.k 0 h) n),
        sym (get_or-reverse c.args.nodes.now c.loop-k.k 0 h) ∙ carry_last c.requires.laws done (reverse c.args.nodes.now) c.loop-k.k b,
      );
  known = c.requires.known (length c.args.nodes.now - 1 - c.loop-k.k) 0 (from_end c.loop-k.k _ c.loop-k-test.true);
  filled = (after_by (g.C.Callback.table c.args.callback.now) c.args.lane.now.dimension.now _ _ _ _ c.loop-k.from (slice_index c.args.nodes.now (length c.args.nodes.now - 1 - c.loop-k.k)) c.args.lane.now.vehicle _ _ c.in_ok-range.ensures.span c.requires.lane.ranges c.requires.lane.slack c.requires.lane.cap c.answer_way-way.ensures.answer).filled;
  small = c.in_ok-range.ensures.small;
}

pub returns : goal.returns
returns g c = record {
  span = λ done s e.
      let i = c.loop-k.invariant.span done s e in
      let l = length-reverse c.args.nodes.now in
      let t = c.loop-k-test.false in
      carry_end c.requires.laws done (reverse c.args.nodes.now) c.loop-k.k (omega arith) _ _ _ _ _ i.0 i.1;
  filled = c.loop-k.invariant.filled;
  small = c.loop-k.invariant.small;
  known = c.loop-k.invariant.known;
}

pub bounds-nodes-nodes : goal.bounds-nodes-nodes
bounds-nodes-nodes g c = from_end c.loop-k.k _ c.loop-k-test.true

pub overflow_sub-node : goal.overflow_sub-node
overflow_sub-node g c = some_above _ _ c.loop-k-test.true

pub overflow_sub-node-in-loop-k : goal.overflow_sub-node-in-loop-k
overflow_sub-node-in-loop-k g c = before_last _ _ c.loop-k-test.true

pub loop-k-smaller : goal.loop-k-smaller
loop-k-smaller g c = nearer_end _ _ c.loop-k-test.true
