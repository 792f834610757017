use Rattle.std.proofs.Common.{◌∙◌}
use Rattle.move_core.proofs.Facts.{can_swap}
use Rattle.move_core.proofs.Reading.{before_end, touch_fits}
use Rattle.move_core.proofs.touches.Touching.of_swap.Goals as goal

pub route-requires-clause-low : goal.route-requires-clause-low
route-requires-clause-low c =
    let f = can_swap c.args.self.plan.now.customers c.args.self.plan.now.routes c.args.vehicle c.args.place c.args.other c.args.at c.requires in
    f.vehicle.low

pub route-requires-clause-high : goal.route-requires-clause-high
route-requires-clause-high c =
    let f = can_swap c.args.self.plan.now.customers c.args.self.plan.now.routes c.args.vehicle c.args.place c.args.other c.args.at c.requires in
    f.vehicle.high

pub route-requires-2-clause-low : goal.route-requires-2-clause-low
route-requires-2-clause-low c =
    let f = can_swap c.args.self.plan.now.customers c.args.self.plan.now.routes c.args.vehicle c.args.place c.args.other c.args.at c.requires in
    f.other.low

pub route-requires-2-clause-high : goal.route-requires-2-clause-high
route-requires-2-clause-high c =
    let f = can_swap c.args.self.plan.now.customers c.args.self.plan.now.routes c.args.vehicle c.args.place c.args.other c.args.at c.requires in
    f.other.high

pub overflow_sub-place : goal.overflow_sub-place
overflow_sub-place c =
    let f = can_swap c.args.self.plan.now.customers c.args.self.plan.now.routes c.args.vehicle c.args.place c.args.other c.args.at c.requires in
    f.place.low

pub bounds-route-place : goal.bounds-route-place
bounds-route-place c =
    let f = can_swap c.args.self.plan.now.customers c.args.self.plan.now.routes c.args.vehicle c.args.place c.args.other c.args.at c.requires in
    before_end c.args.place _ _ (c.customers-route.ensures ∙ c.deref.ensures ∙ c.route.ensures.value) f.place.low f.place.high

pub overflow_sub-at : goal.overflow_sub-at
overflow_sub-at c =
    let f = can_swap c.args.self.plan.now.customers c.args.self.plan.now.routes c.args.vehicle c.args.place c.args.other c.args.at c.requires in
    f.at.low

pub bounds-there-at : goal.bounds-there-at
bounds-there-at c =
    let f = can_swap c.args.self.plan.now.customers c.args.self.plan.now.routes c.args.vehicle c.args.place c.args.other c.args.at c.requires in
    before_end c.args.at _ _ (c.customers-there.ensures ∙ c.deref-2.ensures ∙ c.route-2.ensures.value) f.at.low f.at.high

pub push_touches-requires : goal.push_touches-requires
push_touches-requires c =
    let f = can_swap c.args.self.plan.now.customers c.args.self.plan.now.routes c.args.vehicle c.args.place c.args.other c.args.at c.requires in
    touch_fits c.args.place _ _ c.route.ensures.value f.place.high c.route.ensures.short

pub push_touches-requires-2 : goal.push_touches-requires-2
push_touches-requires-2 c =
    let f = can_swap c.args.self.plan.now.customers c.args.self.plan.now.routes c.args.vehicle c.args.place c.args.other c.args.at c.requires in
    touch_fits c.args.at _ _ c.route-2.ensures.value f.at.high c.route-2.ensures.short
