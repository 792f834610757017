use Rattle.std.proofs.Common.{[], ◌+◌, refl}
use Rattle.callback_store.specs.Meter.{none_asked, asks_then}
use Rattle.callback_store.specs.Registry.{tables}
use Rattle.dimension_core.specs.Cumuls.{table_of}
use Rattle.dimension_core.proofs.Misses.{miss_start, miss_next}
use Rattle.dimension_core.proofs.Outs.{asked_so, asked_on, at_most}
use Rattle.dimension_core.proofs.Reach.{span_start, span_none, span_more, span_rest, span_early, span_whole, last_of-push_at}
use Rattle.dimension_core.proofs.dimension.Dimension.reach.Goals as goal

pub loop-node-init : goal.loop-node-init
loop-node-init g c = record {
  span = span_start (table_of (tables c.args.registry.now) c.args.self.now) _ _ _ c.in_ok-range.ensures.span;
  last = refl;
  small = c.in_ok-range.ensures.small;
  asks = none_asked _;
  known = c.in_ok-range.ensures.depot;
}

pub returns-in_err-range-2-clause-span : goal.returns-in_err-range-2-clause-span
returns-in_err-range-2-clause-span g c =
    let i = c.loop-node.invariant in
    rw c.from_residual-in_err-range-2.ensures
    (span_rest _ _ _ _ _ (span_more _ _ _ _ _ _ _ _ _ c.loop-node-test.true i.span i.last refl c.in_err-range-2.ensures.span))

pub loop-node-preserved : goal.loop-node-preserved
loop-node-preserved g c =
    let i = c.loop-node.invariant in
    record {
      span = span_more _ _ _ _ _ _ _ _ _ c.loop-node-test.true i.span i.last refl c.in_ok-range-2.ensures.span;
      last = last_of-push_at _ _ c.loop-node-test.true;
      small = c.in_ok-range-2.ensures.small;
      asks = asks_then _ _ _ _ _ _ _ i.asks c.extend.ensures.one;
      known = c.requires.known _ 0 c.loop-node-test.true;
    }

pub returns-clause-early : goal.returns-clause-early
returns-clause-early g c =
    span_early _ _ _ _ _ (span_whole _ _ _ _ _ _ c.loop-node-test.false c.loop-node.invariant.span)

pub returns-in_err-range-2-clause-asks : goal.returns-in_err-range-2-clause-asks
returns-in_err-range-2-clause-asks g c =
    asked_on _ _ _ _ _ c.loop-node-test.true c.loop-node.invariant.asks c.extend.ensures.one

pub returns-in_err-range-clause-span : goal.returns-in_err-range-clause-span
returns-in_err-range-clause-span g c =
    rw c.from_residual.ensures (span_none _ _ _ [] c.args.nodes.now (span_start (table_of (tables c.args.registry.now) c.args.self.now) _ _ _ c.in_err-range.ensures.span))

pub returns-in_err-range-clause-missed : goal.returns-in_err-range-clause-missed
returns-in_err-range-clause-missed g c =
    let none = span_start (table_of (tables c.args.registry.now) c.args.self.now) _ _ _ c.in_err-range.ensures.span in
    rw c.from_residual.ensures (0, miss_start _ _ _ c.args.nodes.now none, none_asked _)

pub returns-in_err-range-2-clause-missed : goal.returns-in_err-range-2-clause-missed
returns-in_err-range-2-clause-missed g c =
    let i = c.loop-node.invariant in
    let within = c.loop-node-test.true in
    let none = span_more _ _ _ _ _ _ _ _ _ within i.span i.last refl c.in_err-range-2.ensures.span in
    rw c.from_residual-in_err-range-2.ensures
    (c.loop-node.node-index + 1, miss_next _ _ _ _ _ _ within i.span none, asks_then _ _ _ _ _ _ _ i.asks c.extend.ensures.one)

pub extend-requires-clause-served : goal.extend-requires-clause-served
extend-requires-clause-served g c = c.requires.served

pub extend-requires-clause-from : goal.extend-requires-clause-from
extend-requires-clause-from g c = c.loop-node.invariant.known

pub extend-requires-clause-to : goal.extend-requires-clause-to
extend-requires-clause-to g c = c.requires.known _ 0 c.loop-node-test.true

pub extend-requires-clause-low : goal.extend-requires-clause-low
extend-requires-clause-low g c = c.requires.low

pub extend-requires-clause-high : goal.extend-requires-clause-high
extend-requires-clause-high g c = c.requires.high

pub returns-clause-span : goal.returns-clause-span
returns-clause-span g c = span_whole _ _ _ _ _ _ c.loop-node-test.false c.loop-node.invariant.span

pub returns-clause-asks : goal.returns-clause-asks
returns-clause-asks g c = at_most _ _ _ (asked_so _ _ _ _ c.loop-node.auto.node-index-end c.loop-node-test.false c.loop-node.invariant.asks)

pub returns-clause-whole : goal.returns-clause-whole
returns-clause-whole g c = asked_so _ _ _ _ c.loop-node.auto.node-index-end c.loop-node-test.false c.loop-node.invariant.asks

pub returns-clause-small : goal.returns-clause-small
returns-clause-small g c = c.loop-node.invariant.small
