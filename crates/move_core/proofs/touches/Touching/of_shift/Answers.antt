use Rattle.std.proofs.Common.{◌∙◌, ◌+◌}
use Rattle.move_core.proofs.Facts.{can_shift}
use Rattle.move_core.proofs.Reading.{room_in}
use Rattle.move_core.proofs.touches.Touching.of_shift.Goals as goal

pub route-requires-clause-low : goal.route-requires-clause-low
route-requires-clause-low c =
    let f = can_shift c.args.self.plan.now.customers c.args.self.plan.now.routes c.args.vehicle c.args.place c.args.count c.args.to c.args.at c.requires in
    f.from.vehicle.low

pub route-requires-clause-high : goal.route-requires-clause-high
route-requires-clause-high c =
    let f = can_shift c.args.self.plan.now.customers c.args.self.plan.now.routes c.args.vehicle c.args.place c.args.count c.args.to c.args.at c.requires in
    f.from.vehicle.high

pub stretch-requires-clause-low : goal.stretch-requires-clause-low
stretch-requires-clause-low c =
    let f = can_shift c.args.self.plan.now.customers c.args.self.plan.now.routes c.args.vehicle c.args.place c.args.count c.args.to c.args.at c.requires in
    f.from.low

pub stretch-requires-clause-high : goal.stretch-requires-clause-high
stretch-requires-clause-high c =
    let f = can_shift c.args.self.plan.now.customers c.args.self.plan.now.routes c.args.vehicle c.args.place c.args.count c.args.to c.args.at c.requires in
    room_in (c.args.place + c.args.count) _ _ (c.customers-route.ensures ∙ c.deref.ensures ∙ c.route.ensures.value) f.from.high
