use Rattle.std.proofs.Common.{◌∙◌}
use Rattle.move_core.proofs.Facts.{can_cross}
use Rattle.move_core.proofs.Reading.{place_in}
use Rattle.move_core.proofs.drafting.Drafting.by_cross.Goals as goal

pub route-requires-clause-low : goal.route-requires-clause-low
route-requires-clause-low c =
    let f = can_cross c.args.self.plan.now.customers c.args.self.plan.now.routes c.args.vehicle c.args.keep c.args.other c.args.keep_other c.requires in
    f.vehicle.low

pub route-requires-clause-high : goal.route-requires-clause-high
route-requires-clause-high c =
    let f = can_cross c.args.self.plan.now.customers c.args.self.plan.now.routes c.args.vehicle c.args.keep c.args.other c.args.keep_other c.requires in
    f.vehicle.high

pub route-requires-2-clause-low : goal.route-requires-2-clause-low
route-requires-2-clause-low c =
    let f = can_cross c.args.self.plan.now.customers c.args.self.plan.now.routes c.args.vehicle c.args.keep c.args.other c.args.keep_other c.requires in
    f.other.low

pub route-requires-2-clause-high : goal.route-requires-2-clause-high
route-requires-2-clause-high c =
    let f = can_cross c.args.self.plan.now.customers c.args.self.plan.now.routes c.args.vehicle c.args.keep c.args.other c.args.keep_other c.requires in
    f.other.high

pub crossed-requires-clause-keep : goal.crossed-requires-clause-keep
crossed-requires-clause-keep c =
    let f = can_cross c.args.self.plan.now.customers c.args.self.plan.now.routes c.args.vehicle c.args.keep c.args.other c.args.keep_other c.requires in
    place_in c.args.keep _ _ (c.customers-route.ensures ∙ c.deref.ensures ∙ c.route.ensures.value) f.kept

pub crossed-requires-clause-keep_other : goal.crossed-requires-clause-keep_other
crossed-requires-clause-keep_other c =
    let f = can_cross c.args.self.plan.now.customers c.args.self.plan.now.routes c.args.vehicle c.args.keep c.args.other c.args.keep_other c.requires in
    place_in c.args.keep_other _ _ (c.customers-there.ensures ∙ c.deref-2.ensures ∙ c.route-2.ensures.value) f.kept_other

pub crossed-requires-2-clause-keep : goal.crossed-requires-2-clause-keep
crossed-requires-2-clause-keep c =
    let f = can_cross c.args.self.plan.now.customers c.args.self.plan.now.routes c.args.vehicle c.args.keep c.args.other c.args.keep_other c.requires in
    place_in c.args.keep_other _ _ (c.customers-there.ensures ∙ c.deref-2.ensures ∙ c.route-2.ensures.value) f.kept_other

pub crossed-requires-2-clause-keep_other : goal.crossed-requires-2-clause-keep_other
crossed-requires-2-clause-keep_other c =
    let f = can_cross c.args.self.plan.now.customers c.args.self.plan.now.routes c.args.vehicle c.args.keep c.args.other c.args.keep_other c.requires in
    place_in c.args.keep _ _ (c.customers-route.ensures ∙ c.deref.ensures ∙ c.route.ensures.value) f.kept
