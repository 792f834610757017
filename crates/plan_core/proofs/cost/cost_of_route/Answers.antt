use Rattle.std.proofs.Common.{zero-add, le_refl}
use Rattle.std.proofs.Math.Facts.{Fits-below}
use Rattle.callback_store.specs.Meter.{none_asked, asks_then}
use Rattle.callback_store.specs.Registry.{tables}
use Rattle.callback_store.specs.Tables.{table_at}
use Rattle.plan_core.proofs.Ways.{cost_none, asks_none, way_more, way_home, asks_home, small_more, small_all}
use Rattle.plan_core.proofs.cost.cost_of_route.Goals as goal

pub returns-then-is_empty-clause-value : goal.returns-then-is_empty-clause-value
returns-then-is_empty-clause-value g c = cost_none (table_at (tables c.args.registry.now) c.args.cost) _ c.if-is_empty.ensures

pub returns-then-is_empty-clause-just : goal.returns-then-is_empty-clause-just
returns-then-is_empty-clause-just g c = asks_none _ _ c.if-is_empty.ensures

pub loop-customer-init : goal.loop-customer-init
loop-customer-init g c = record { whole = zero-add _; asks = none_asked c.args.meter.now; small = le_refl 0; known = c.requires.depot }

pub ask-sum-requires-clause-registered : goal.ask-sum-requires-clause-registered
ask-sum-requires-clause-registered g c = c.requires.registered

pub ask-sum-requires-clause-from : goal.ask-sum-requires-clause-from
ask-sum-requires-clause-from g c = c.loop-customer.invariant.known

pub ask-sum-requires-clause-to : goal.ask-sum-requires-clause-to
ask-sum-requires-clause-to g c = c.requires.known _ 0 c.loop-customer-test.true

pub overflow_add-sum : goal.overflow_add-sum
overflow_add-sum g c =
    Fits-below tt (small_all 1000000000 _ _ _ _ 1000 c.loop-customer.invariant.small c.ask-sum.ensures.small c.loop-customer.auto.customer-index-end c.requires.short)

pub loop-customer-preserved : goal.loop-customer-preserved
loop-customer-preserved g c =
    let i = c.loop-customer.invariant in
    let new = c.ask-sum.ensures in
    record {
      whole = way_more _ c.args.route.now _ _ _ _ _ c.loop-customer-test.true i.whole new.answer;
      asks = asks_then _ _ _ _ _ 1 1 i.asks new.one;
      small = small_more 1000000000 _ _ _ i.small new.small;
      known = c.requires.known _ 0 c.loop-customer-test.true;
    }

pub ask-requires-clause-registered : goal.ask-requires-clause-registered
ask-requires-clause-registered g c = c.requires.registered

pub ask-requires-clause-from : goal.ask-requires-clause-from
ask-requires-clause-from g c = c.loop-customer.invariant.known

pub ask-requires-clause-to : goal.ask-requires-clause-to
ask-requires-clause-to g c = c.requires.depot

pub overflow_add-result : goal.overflow_add-result
overflow_add-result g c =
    Fits-below tt (small_all 1000000000 _ _ _ _ 1000 c.loop-customer.invariant.small c.ask.ensures.small c.loop-customer.auto.customer-index-end c.requires.short)

pub returns-clause-value : goal.returns-clause-value
returns-clause-value g c =
    way_home _ _ _ _ _ _ c.loop-customer-test.false c.if-is_empty.ensures c.loop-customer.invariant.whole c.ask.ensures.answer

pub returns-clause-small : goal.returns-clause-small
returns-clause-small g c =
    small_all 1000000000 _ _ _ _ 1000 c.loop-customer.invariant.small c.ask.ensures.small c.loop-customer.auto.customer-index-end c.requires.short

pub returns-clause-just : goal.returns-clause-just
returns-clause-just g c =
    asks_home _ _ _ _ _ c.loop-customer.auto.customer-index-end c.loop-customer-test.false c.if-is_empty.ensures c.loop-customer.invariant.asks c.ask.ensures.one
