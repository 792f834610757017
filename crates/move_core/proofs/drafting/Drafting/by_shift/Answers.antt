use Rattle.std.proofs.Common.{◌∙◌, ◌+◌, ◌≤◌, ℕ, length, subst, sym}
use Rattle.plan_core.specs.Plan.{route_at}
use Rattle.move_core.proofs.Facts.{can_shift}
use Rattle.move_core.proofs.Reading.{room_in}
use Rattle.move_core.proofs.drafting.Drafting.by_shift.Goals as goal

pub route-requires-clause-low : goal.route-requires-clause-low
route-requires-clause-low c =
    let f = can_shift c.args.self.plan.now.customers c.args.self.plan.now.routes c.args.vehicle c.args.place c.args.count c.args.to c.args.at c.requires in
    f.from.vehicle.low

pub route-requires-clause-high : goal.route-requires-clause-high
route-requires-clause-high c =
    let f = can_shift c.args.self.plan.now.customers c.args.self.plan.now.routes c.args.vehicle c.args.place c.args.count c.args.to c.args.at c.requires in
    f.from.vehicle.high

pub moved_within-requires-clause-low : goal.moved_within-requires-clause-low
moved_within-requires-clause-low c =
    let f = can_shift c.args.self.plan.now.customers c.args.self.plan.now.routes c.args.vehicle c.args.place c.args.count c.args.to c.args.at c.requires in
    f.from.low

pub moved_within-requires-clause-high : goal.moved_within-requires-clause-high
moved_within-requires-clause-high c =
    let f = can_shift c.args.self.plan.now.customers c.args.self.plan.now.routes c.args.vehicle c.args.place c.args.count c.args.to c.args.at c.requires in
    room_in (c.args.place + c.args.count) _ _ (c.customers-route.ensures ∙ c.deref.ensures ∙ c.route.ensures.value) f.from.high

pub moved_within-requires-clause-at_low : goal.moved_within-requires-clause-at_low
moved_within-requires-clause-at_low c =
    let f = can_shift c.args.self.plan.now.customers c.args.self.plan.now.routes c.args.vehicle c.args.place c.args.count c.args.to c.args.at c.requires in
    f.onto.low

pub moved_within-requires-clause-at_high : goal.moved_within-requires-clause-at_high
moved_within-requires-clause-at_high c =
    let f = can_shift c.args.self.plan.now.customers c.args.self.plan.now.routes c.args.vehicle c.args.place c.args.count c.args.to c.args.at c.requires in
    room_in (c.args.at + c.args.count) _ _ (c.customers-route.ensures ∙ c.deref.ensures ∙ c.route.ensures.value) (subst (λ (v : ℕ). c.args.at + c.args.count ≤ length (route_at c.args.self.plan.now.routes v) + 1) (sym c.if-vehicle-to.true) (f.onto.inside c.if-vehicle-to.true).0)

pub route-requires-2-clause-low : goal.route-requires-2-clause-low
route-requires-2-clause-low c =
    let f = can_shift c.args.self.plan.now.customers c.args.self.plan.now.routes c.args.vehicle c.args.place c.args.count c.args.to c.args.at c.requires in
    f.onto.vehicle.low

pub route-requires-2-clause-high : goal.route-requires-2-clause-high
route-requires-2-clause-high c =
    let f = can_shift c.args.self.plan.now.customers c.args.self.plan.now.routes c.args.vehicle c.args.place c.args.count c.args.to c.args.at c.requires in
    f.onto.vehicle.high

pub stretch-moved-requires-clause-low : goal.stretch-moved-requires-clause-low
stretch-moved-requires-clause-low c =
    let f = can_shift c.args.self.plan.now.customers c.args.self.plan.now.routes c.args.vehicle c.args.place c.args.count c.args.to c.args.at c.requires in
    f.from.low

pub stretch-moved-requires-clause-high : goal.stretch-moved-requires-clause-high
stretch-moved-requires-clause-high c =
    let f = can_shift c.args.self.plan.now.customers c.args.self.plan.now.routes c.args.vehicle c.args.place c.args.count c.args.to c.args.at c.requires in
    room_in (c.args.place + c.args.count) _ _ (c.customers-route.ensures ∙ c.deref.ensures ∙ c.route.ensures.value) f.from.high

pub without-requires-clause-low : goal.without-requires-clause-low
without-requires-clause-low c =
    let f = can_shift c.args.self.plan.now.customers c.args.self.plan.now.routes c.args.vehicle c.args.place c.args.count c.args.to c.args.at c.requires in
    f.from.low

pub without-requires-clause-high : goal.without-requires-clause-high
without-requires-clause-high c =
    let f = can_shift c.args.self.plan.now.customers c.args.self.plan.now.routes c.args.vehicle c.args.place c.args.count c.args.to c.args.at c.requires in
    room_in (c.args.place + c.args.count) _ _ (c.customers-route.ensures ∙ c.deref.ensures ∙ c.route.ensures.value) f.from.high

pub with_stretch-requires-clause-low : goal.with_stretch-requires-clause-low
with_stretch-requires-clause-low c =
    let f = can_shift c.args.self.plan.now.customers c.args.self.plan.now.routes c.args.vehicle c.args.place c.args.count c.args.to c.args.at c.requires in
    f.onto.low

pub with_stretch-requires-clause-high : goal.with_stretch-requires-clause-high
with_stretch-requires-clause-high c =
    let f = can_shift c.args.self.plan.now.customers c.args.self.plan.now.routes c.args.vehicle c.args.place c.args.count c.args.to c.args.at c.requires in
    room_in c.args.at _ _ (c.customers-there.ensures ∙ c.deref-2.ensures ∙ c.route-2.ensures.value) (f.onto.outside c.if-vehicle-to.false)
