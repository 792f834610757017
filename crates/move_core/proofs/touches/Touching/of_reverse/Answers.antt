use Rattle.std.proofs.Common.{◌∙◌}
use Rattle.move_core.proofs.Facts.{can_reverse}
use Rattle.move_core.proofs.Reading.{before, reach_in}
use Rattle.move_core.proofs.touches.Touching.of_reverse.Goals as goal

pub overflow_sub-count : goal.overflow_sub-count
overflow_sub-count c =
    let f = can_reverse c.args.self.plan.now.customers c.args.self.plan.now.routes c.args.vehicle c.args.first c.args.last c.requires in
    before c.args.first c.args.last f.order

pub route-requires-clause-low : goal.route-requires-clause-low
route-requires-clause-low c =
    let f = can_reverse c.args.self.plan.now.customers c.args.self.plan.now.routes c.args.vehicle c.args.first c.args.last c.requires in
    f.vehicle.low

pub route-requires-clause-high : goal.route-requires-clause-high
route-requires-clause-high c =
    let f = can_reverse c.args.self.plan.now.customers c.args.self.plan.now.routes c.args.vehicle c.args.first c.args.last c.requires in
    f.vehicle.high

pub stretch-requires-clause-low : goal.stretch-requires-clause-low
stretch-requires-clause-low c =
    let f = can_reverse c.args.self.plan.now.customers c.args.self.plan.now.routes c.args.vehicle c.args.first c.args.last c.requires in
    f.low

pub stretch-requires-clause-high : goal.stretch-requires-clause-high
stretch-requires-clause-high c =
    let f = can_reverse c.args.self.plan.now.customers c.args.self.plan.now.routes c.args.vehicle c.args.first c.args.last c.requires in
    reach_in c.args.first c.args.last _ _ (c.customers-route.ensures ∙ c.deref.ensures ∙ c.route.ensures.value) f.order f.high
