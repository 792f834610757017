use Rattle.std.proofs.Common.{◌∙◌, ◌≤◌, ℕ, length, subst, sym}
use Rattle.plan_core.specs.Plan.{route_at}
use Rattle.move_core.proofs.Facts.{can_swap}
use Rattle.move_core.proofs.Reading.{before_end, place_in}
use Rattle.move_core.proofs.drafting.Drafting.by_swap.Goals as goal

pub route-requires-clause-low : goal.route-requires-clause-low
route-requires-clause-low c =
    let f = can_swap c.args.self.plan.now.customers c.args.self.plan.now.routes c.args.vehicle c.args.place c.args.other c.args.at c.requires in
    f.vehicle.low

pub route-requires-clause-high : goal.route-requires-clause-high
route-requires-clause-high c =
    let f = can_swap c.args.self.plan.now.customers c.args.self.plan.now.routes c.args.vehicle c.args.place c.args.other c.args.at c.requires in
    f.vehicle.high

pub swapped_within-requires-clause-low : goal.swapped_within-requires-clause-low
swapped_within-requires-clause-low c =
    let f = can_swap c.args.self.plan.now.customers c.args.self.plan.now.routes c.args.vehicle c.args.place c.args.other c.args.at c.requires in
    f.place.low

pub swapped_within-requires-clause-high : goal.swapped_within-requires-clause-high
swapped_within-requires-clause-high c =
    let f = can_swap c.args.self.plan.now.customers c.args.self.plan.now.routes c.args.vehicle c.args.place c.args.other c.args.at c.requires in
    place_in c.args.place _ _ (c.customers-route.ensures ∙ c.deref.ensures ∙ c.route.ensures.value) f.place.high

pub swapped_within-requires-clause-at_low : goal.swapped_within-requires-clause-at_low
swapped_within-requires-clause-at_low c =
    let f = can_swap c.args.self.plan.now.customers c.args.self.plan.now.routes c.args.vehicle c.args.place c.args.other c.args.at c.requires in
    f.at.low

pub swapped_within-requires-clause-at_high : goal.swapped_within-requires-clause-at_high
swapped_within-requires-clause-at_high c =
    let f = can_swap c.args.self.plan.now.customers c.args.self.plan.now.routes c.args.vehicle c.args.place c.args.other c.args.at c.requires in
    place_in c.args.at _ _ (c.customers-route.ensures ∙ c.deref.ensures ∙ c.route.ensures.value) (subst (λ (v : ℕ). c.args.at ≤ length (route_at c.args.self.plan.now.routes v)) (sym c.if-vehicle-other.true) f.at.high)

pub swapped_within-requires-clause-apart : goal.swapped_within-requires-clause-apart
swapped_within-requires-clause-apart c =
    let f = can_swap c.args.self.plan.now.customers c.args.self.plan.now.routes c.args.vehicle c.args.place c.args.other c.args.at c.requires in
    f.apart c.if-vehicle-other.true

pub route-requires-2-clause-low : goal.route-requires-2-clause-low
route-requires-2-clause-low c =
    let f = can_swap c.args.self.plan.now.customers c.args.self.plan.now.routes c.args.vehicle c.args.place c.args.other c.args.at c.requires in
    f.other.low

pub route-requires-2-clause-high : goal.route-requires-2-clause-high
route-requires-2-clause-high c =
    let f = can_swap c.args.self.plan.now.customers c.args.self.plan.now.routes c.args.vehicle c.args.place c.args.other c.args.at c.requires in
    f.other.high

pub overflow_sub-first : goal.overflow_sub-first
overflow_sub-first c =
    let f = can_swap c.args.self.plan.now.customers c.args.self.plan.now.routes c.args.vehicle c.args.place c.args.other c.args.at c.requires in
    f.place.low

pub bounds-route-place : goal.bounds-route-place
bounds-route-place c =
    let f = can_swap c.args.self.plan.now.customers c.args.self.plan.now.routes c.args.vehicle c.args.place c.args.other c.args.at c.requires in
    before_end c.args.place _ _ (c.customers-route.ensures ∙ c.deref.ensures ∙ c.route.ensures.value) f.place.low f.place.high

pub overflow_sub-second : goal.overflow_sub-second
overflow_sub-second c =
    let f = can_swap c.args.self.plan.now.customers c.args.self.plan.now.routes c.args.vehicle c.args.place c.args.other c.args.at c.requires in
    f.at.low

pub bounds-there-at : goal.bounds-there-at
bounds-there-at c =
    let f = can_swap c.args.self.plan.now.customers c.args.self.plan.now.routes c.args.vehicle c.args.place c.args.other c.args.at c.requires in
    before_end c.args.at _ _ (c.customers-there.ensures ∙ c.deref-2.ensures ∙ c.route-2.ensures.value) f.at.low f.at.high

pub with_customer-requires-clause-low : goal.with_customer-requires-clause-low
with_customer-requires-clause-low c =
    let f = can_swap c.args.self.plan.now.customers c.args.self.plan.now.routes c.args.vehicle c.args.place c.args.other c.args.at c.requires in
    f.place.low

pub with_customer-requires-clause-high : goal.with_customer-requires-clause-high
with_customer-requires-clause-high c =
    let f = can_swap c.args.self.plan.now.customers c.args.self.plan.now.routes c.args.vehicle c.args.place c.args.other c.args.at c.requires in
    place_in c.args.place _ _ (c.customers-route.ensures ∙ c.deref.ensures ∙ c.route.ensures.value) f.place.high

pub with_customer-requires-2-clause-low : goal.with_customer-requires-2-clause-low
with_customer-requires-2-clause-low c =
    let f = can_swap c.args.self.plan.now.customers c.args.self.plan.now.routes c.args.vehicle c.args.place c.args.other c.args.at c.requires in
    f.at.low

pub with_customer-requires-2-clause-high : goal.with_customer-requires-2-clause-high
with_customer-requires-2-clause-high c =
    let f = can_swap c.args.self.plan.now.customers c.args.self.plan.now.routes c.args.vehicle c.args.place c.args.other c.args.at c.requires in
    place_in c.args.at _ _ (c.customers-there.ensures ∙ c.deref-2.ensures ∙ c.route-2.ensures.value) f.at.high
