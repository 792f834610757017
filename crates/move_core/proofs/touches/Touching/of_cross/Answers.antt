use Rattle.move_core.proofs.Facts.{can_cross}
use Rattle.move_core.proofs.touches.Touching.of_cross.Goals as goal

pub route-requires-clause-low : goal.route-requires-clause-low
route-requires-clause-low c =
    let f = can_cross c.args.self.plan.now.customers c.args.self.plan.now.routes c.args.vehicle c.args.keep c.args.other c.args.keep_other c.requires in
    f.vehicle.low

pub route-requires-clause-high : goal.route-requires-clause-high
route-requires-clause-high c =
    let f = can_cross c.args.self.plan.now.customers c.args.self.plan.now.routes c.args.vehicle c.args.keep c.args.other c.args.keep_other c.requires in
    f.vehicle.high

pub route-requires-2-clause-low : goal.route-requires-2-clause-low
route-requires-2-clause-low c =
    let f = can_cross c.args.self.plan.now.customers c.args.self.plan.now.routes c.args.vehicle c.args.keep c.args.other c.args.keep_other c.requires in
    f.other.low

pub route-requires-2-clause-high : goal.route-requires-2-clause-high
route-requires-2-clause-high c =
    let f = can_cross c.args.self.plan.now.customers c.args.self.plan.now.routes c.args.vehicle c.args.keep c.args.other c.args.keep_other c.requires in
    f.other.high
