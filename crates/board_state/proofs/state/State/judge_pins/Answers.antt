use Rattle.std.proofs.Common.{List, Bool, sym, subst, arith}
use Rattle.plan_core.specs.Commits.{named_vehicles}
use Rattle.plan_core.specs.Drafts.{AreFrontsWithin, drafts_of}
use Rattle.plan_core.specs.Plan.{with_routes}
use Rattle.pin_core.specs.Allowed.{AreAllTouched, IsFirstThawed}
use Rattle.pin_core.specs.Pins.{AreFreezesKept, DoPinsHold}
use Rattle.board_state.specs.Deltas.{AreFreed}
use Rattle.board_state.specs.Held.{HeldState, may_free, routes_drafted}
use Rattle.board_state.proofs.Overrides.{placed_as, held_allow, none_freed, none_leaving}
use Rattle.board_state.proofs.WorkLaws.{idle, within, just_idle}
use Rattle.board_state.proofs.state.State.judge_pins.Goals as goal

pub allows-requires-clause-touched : goal.allows-requires-clause-touched
allows-requires-clause-touched c =
    subst (λ (h : HeldState). AreAllTouched h.plan.routes (with_routes (drafts_of h.plan.routes c.args.drafts.now) h.plan.routes) c.args.touched.now) (sym c.self.view_is) c.requires.placeable.touched

pub returns-in-Ok-clause-freed : goal.returns-in-Ok-clause-freed
returns-in-Ok-clause-freed c =
    let held = c.args.self.now in
    let others = with_routes (drafts_of held.plan.routes c.args.drafts.now) held.plan.routes in
    subst (λ (freed : List Bool). AreFreed held.pins others c.args.touched.now freed) (sym c.new.ensures.items)
    (none_freed held.pins (with_routes (drafts_of held.plan.routes c.args.drafts.now) held.plan.routes) c.args.touched.now held.plan.customers c.requires.placeable.known
    (subst (λ (h : HeldState). DoPinsHold h.pins (with_routes (drafts_of h.plan.routes c.args.drafts.now) h.plan.routes)) c.self.view_is c.in-Ok.ensures.1))

pub returns-in-Ok-clause-work : goal.returns-in-Ok-clause-work
returns-in-Ok-clause-work c =
    let held = c.args.self.now in
    let others = with_routes (drafts_of held.plan.routes c.args.drafts.now) held.plan.routes in
    let holds = subst (λ (h : HeldState). DoPinsHold h.pins (with_routes (drafts_of h.plan.routes c.args.drafts.now) h.plan.routes)) c.self.view_is c.in-Ok.ensures.1 in
    let none = none_leaving held.pins others c.args.touched.now (c.pins_after_commits.ensures.same held.pins others holds) in
    within _ _ _ _ _ _ _ _ _ _ (just_idle _) (omega arith) (omega arith) (omega (arith, none)) (omega arith)

pub allows-requires-clause-customers : goal.allows-requires-clause-customers
allows-requires-clause-customers c =
    (placed_as _ _ c.args.drafts.now c.args.touched.now c.self.view_is c.requires.placeable).pinned

pub allows-requires-clause-vehicles : goal.allows-requires-clause-vehicles
allows-requires-clause-vehicles c =
    (placed_as _ _ c.args.drafts.now c.args.touched.now c.self.view_is c.requires.placeable).frozen

pub allows-requires-clause-holding : goal.allows-requires-clause-holding
allows-requires-clause-holding c =
    (placed_as _ _ c.args.drafts.now c.args.touched.now c.self.view_is c.requires.placeable).holding

pub allows-requires-clause-fitting : goal.allows-requires-clause-fitting
allows-requires-clause-fitting c =
    (placed_as _ _ c.args.drafts.now c.args.touched.now c.self.view_is c.requires.placeable).fitting

pub allows-requires-clause-changes : goal.allows-requires-clause-changes
allows-requires-clause-changes c =
    (placed_as _ _ c.args.drafts.now c.args.touched.now c.self.view_is c.requires.placeable).changes

pub allows-requires-clause-known : goal.allows-requires-clause-known
allows-requires-clause-known c =
    (placed_as _ _ c.args.drafts.now c.args.touched.now c.self.view_is c.requires.placeable).known

pub allows-requires-clause-fronts : goal.allows-requires-clause-fronts
allows-requires-clause-fronts c =
    subst (λ (h : HeldState). AreFrontsWithin h.plan.routes c.args.drafts.now) (sym c.self.view_is) c.requires.within

pub judge_overrides-requires-clause-placeable : goal.judge_overrides-requires-clause-placeable
judge_overrides-requires-clause-placeable c = c.requires.placeable

pub judge_overrides-requires-clause-within : goal.judge_overrides-requires-clause-within
judge_overrides-requires-clause-within c = c.requires.within

pub returns-in-Ok-clause-fronts : goal.returns-in-Ok-clause-fronts
returns-in-Ok-clause-fronts c =
    subst (λ (h : HeldState). AreFreezesKept h.pins h.plan.routes (routes_drafted h c.args.drafts.now)) c.self.view_is c.in-Ok.ensures.0

pub returns-in-Ok-clause-pins : goal.returns-in-Ok-clause-pins
returns-in-Ok-clause-pins c =
    let held = c.args.self.now in
    held_allow held.pins (may_free held c.args.session) (routes_drafted held c.args.drafts.now)
    (subst (λ (h : HeldState). DoPinsHold h.pins (routes_drafted h c.args.drafts.now)) c.self.view_is c.in-Ok.ensures.1)

pub returns-in-Err-Frozen-clause-stop : goal.returns-in-Err-Frozen-clause-stop
returns-in-Err-Frozen-clause-stop c =
    let fault = rw c.in-Err-Frozen.field-0-is at c.in-Err-Frozen.ensures in
    subst (λ (h : HeldState). IsFirstThawed h.pins h.plan.routes (routes_drafted h c.args.drafts.now) (named_vehicles (drafts_of h.plan.routes c.args.drafts.now)) c.in-Err-Frozen.vehicle)
    c.self.view_is fault

pub returns-in-Err-Frozen-clause-work : goal.returns-in-Err-Frozen-clause-work
returns-in-Err-Frozen-clause-work c = idle _ _ _
