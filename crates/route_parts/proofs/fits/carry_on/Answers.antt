use Rattle.std.proofs.Common.{arith, slice_index}
use Rattle.route_parts.proofs.Carried.{after_by, asked_node, in_ranges, append_nil, carry_more, carry_last, carry_none, carry_end}
use Rattle.route_parts.proofs.Counts.{nearer_end}
use Rattle.route_parts.proofs.fits.carry_on.Goals as goal

pub loop-node-init : goal.loop-node-init
loop-node-init g c = record {
  span = λ done s e. rw (append_nil c.requires.laws done) (s, e);
  known = c.requires.from;
  filled = c.requires.filled;
  small = c.requires.small;
}

pub answer_way-way-requires : goal.answer_way-way-requires
answer_way-way-requires g c = record {
  from = asked_node _ _ _ c.requires.sized c.loop-node.invariant.known;
  to = asked_node _ _ _ c.requires.sized (c.requires.known c.loop-node.node-index 0 c.loop-node-test.true);
}

pub bounds-ranges-node : goal.bounds-ranges-node
bounds-ranges-node g c = in_ranges _ _ _ c.requires.lane.ranges (c.requires.known c.loop-node.node-index 0 c.loop-node-test.true)

pub range_after-requires : goal.range_after-requires
range_after-requires g c = record {
  filled = c.loop-node.invariant.filled;
  range = c.loop-node.invariant.small;
  way = c.answer_way-way.ensures.small;
  slack = c.requires.lane.little;
  cap = c.requires.lane.small;
}

pub returns-in_err-range : goal.returns-in_err-range
returns-in_err-range g c = record {
  span = λ done s e.
      let i = c.loop-node.invariant.span done s e in
      let n = after_by _ _ _ _ _ _ _ _ _ _ _ c.in_err-range.ensures.span c.requires.lane.ranges c.requires.lane.slack c.requires.lane.cap c.answer_way-way.ensures.answer in
      rw c.from_residual.ensures
      (carry_none c.requires.laws _ _ _ done c.args.nodes.now _ (carry_more c.requires.laws _ _ _ done c.args.nodes.now c.loop-node.node-index _ _ _ c.loop-node-test.true i.0 i.1 n));
  filled = rw c.from_residual.ensures tt;
  small = rw c.from_residual.ensures tt;
  known = rw c.from_residual.ensures tt;
}

pub loop-node-preserved : goal.loop-node-preserved
loop-node-preserved g c = record {
  span = λ done s e.
      let i = c.loop-node.invariant.span done s e in
      let n = after_by _ _ _ _ _ _ _ _ _ _ _ c.in_ok-range.ensures.span c.requires.lane.ranges c.requires.lane.slack c.requires.lane.cap c.answer_way-way.ensures.answer in (
        carry_more c.requires.laws _ _ _ done c.args.nodes.now c.loop-node.node-index _ _ _ c.loop-node-test.true i.0 i.1 n,
        carry_last c.requires.laws done c.args.nodes.now c.loop-node.node-index c.loop-node-test.true,
      );
  known = c.requires.known c.loop-node.node-index 0 c.loop-node-test.true;
  filled = (after_by (g.C.Callback.table c.args.callback.now) c.args.lane.now.dimension.now _ _ _ _ c.loop-node.from (slice_index c.args.nodes.now c.loop-node.node-index) c.args.lane.now.vehicle _ _ c.in_ok-range.ensures.span c.requires.lane.ranges c.requires.lane.slack c.requires.lane.cap c.answer_way-way.ensures.answer).filled;
  small = c.in_ok-range.ensures.small;
}

pub returns : goal.returns
returns g c = record {
  span = λ done s e.
      let i = c.loop-node.invariant.span done s e in
      let t = c.loop-node-test.false in
      carry_end c.requires.laws done c.args.nodes.now c.loop-node.node-index (omega arith) _ _ _ _ _ i.0 i.1;
  filled = c.loop-node.invariant.filled;
  small = c.loop-node.invariant.small;
  known = c.loop-node.invariant.known;
}

pub bounds-nodes-node-index : goal.bounds-nodes-node-index
bounds-nodes-node-index g c = c.loop-node-test.true

pub loop-node-smaller : goal.loop-node-smaller
loop-node-smaller g c = nearer_end _ _ c.loop-node-test.true
