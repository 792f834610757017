use Rattle.std.proofs.Common.{◌≡◌, ◌∙◌, sym, ap, subst, List, Bool, length, arith}
use Rattle.plan_core.specs.declared.touch.Touch.{Touch}
use Rattle.plan_core.specs.Commits.{named_vehicles}
use Rattle.plan_core.specs.Drafts.{AreFrontsWithin, drafts_of}
use Rattle.plan_core.specs.Plan.{with_routes}
use Rattle.pin_core.specs.Pins.{AreFreezesKept}
use Rattle.pin_core.specs.Allowed.{AreAllTouched, IsFirstThawed}
use Rattle.pin_core.specs.Override.{DoPinsPass, IsFirstForbidden}
use Rattle.board_rules.specs.Rules.{may_override}
use Rattle.board_state.specs.Held.{HeldState, held_basis, routes_drafted}
use Rattle.board_state.proofs.WorkLaws.{all_probed, some_probed}
use Rattle.board_state.proofs.Overrides.{placed_as, passed_allow, forbidden_held}
use Rattle.board_state.proofs.state.State.judge_overrides.Goals as goal

pub allows_with-requires-clause-touched : goal.allows_with-requires-clause-touched
allows_with-requires-clause-touched c =
    subst (λ (h : HeldState). AreAllTouched h.plan.routes (with_routes (drafts_of h.plan.routes c.args.drafts.now) h.plan.routes) c.args.touched.now) (sym c.self.view_is) c.requires.placeable.touched

pub returns-in-Ok-allows_with-clause-freed : goal.returns-in-Ok-allows_with-clause-freed
returns-in-Ok-allows_with-clause-freed c =
    let held = c.args.self.now in
    let others = with_routes (drafts_of held.plan.routes c.args.drafts.now) held.plan.routes in
    let passes : DoPinsPass held.pins others c.args.touched.now c.in-Ok.free.items =
    subst (λ (free : List Bool). DoPinsPass held.pins others c.args.touched.now free) c.deref.ensures.value
    (subst (λ (h : HeldState). DoPinsPass h.pins (with_routes (drafts_of h.plan.routes c.args.drafts.now) h.plan.routes) c.args.touched.now c.deref.result.now) c.self.view_is c.in-Ok-allows_with.ensures.1) in
    record { short = omega (arith, c.in-Ok.ensures.answers.sized); leave = c.in-Ok.ensures.leave; stay = passes }

pub returns-in-Ok-allows_with-clause-pins : goal.returns-in-Ok-allows_with-clause-pins
returns-in-Ok-allows_with-clause-pins c =
    let held = c.args.self.now in
    let others = with_routes (drafts_of held.plan.routes c.args.drafts.now) held.plan.routes in
    let passes : DoPinsPass held.pins others c.args.touched.now c.in-Ok.free.items =
    subst (λ (free : List Bool). DoPinsPass held.pins others c.args.touched.now free) c.deref.ensures.value
    (subst (λ (h : HeldState). DoPinsPass h.pins (with_routes (drafts_of h.plan.routes c.args.drafts.now) h.plan.routes) c.args.touched.now c.deref.result.now) c.self.view_is c.in-Ok-allows_with.ensures.1) in
    passed_allow held.pins (may_override (held_basis held c.args.session)) others c.args.touched.now c.in-Ok.free.items c.in-Ok.ensures.answers
    held.plan.routes c.requires.placeable.holding c.requires.placeable.touched passes

pub returns-clause-stop : goal.returns-clause-stop
returns-clause-stop c =
    let held = c.args.self.now in
    let others = with_routes (drafts_of held.plan.routes c.args.drafts.now) held.plan.routes in
    let v = c.in-Err-Pinned.vehicle in
    let p = c.in-Err-Pinned.place in
    let fault = rw c.in-Err-Pinned.field-0-is at c.in-Err-Pinned.ensures in
    let here = subst (λ (h : HeldState). AreFreezesKept h.pins h.plan.routes (with_routes (drafts_of h.plan.routes c.args.drafts.now) h.plan.routes)
    × ((t : Touch) × IsFirstForbidden h.pins (with_routes (drafts_of h.plan.routes c.args.drafts.now) h.plan.routes) c.args.touched.now c.deref.result.now t × (t.vehicle ≡ v) × (t.place ≡ p))) c.self.view_is fault in
    let first = subst (λ (free : List Bool). (t : Touch) × IsFirstForbidden held.pins others c.args.touched.now free t × (t.vehicle ≡ v) × (t.place ≡ p)) c.deref.ensures.value here.1 in
    (here.0, (first.0, forbidden_held held.pins (may_override (held_basis held c.args.session)) others c.args.touched.now c.in-Ok.free.items c.in-Ok.ensures.answers first.0 first.1, first.2, first.3))

pub returns-in-Ok-allows_with-clause-work : goal.returns-in-Ok-allows_with-clause-work
returns-in-Ok-allows_with-clause-work c = all_probed _ _ _ c.in-Ok.ensures.whole

pub returns-clause-work : goal.returns-clause-work
returns-clause-work c = all_probed _ _ _ c.in-Ok.ensures.whole

pub overrides-requires-clause-placeable : goal.overrides-requires-clause-placeable
overrides-requires-clause-placeable c = c.requires.placeable

pub overrides-requires-clause-within : goal.overrides-requires-clause-within
overrides-requires-clause-within c = c.requires.within

pub returns-in_default-clause-work : goal.returns-in_default-clause-work
returns-in_default-clause-work c = c.overrides.ensures.work

pub allows_with-requires-clause-customers : goal.allows_with-requires-clause-customers
allows_with-requires-clause-customers c =
    (placed_as _ _ c.args.drafts.now c.args.touched.now c.self.view_is c.requires.placeable).pinned

pub allows_with-requires-clause-vehicles : goal.allows_with-requires-clause-vehicles
allows_with-requires-clause-vehicles c =
    (placed_as _ _ c.args.drafts.now c.args.touched.now c.self.view_is c.requires.placeable).frozen

pub allows_with-requires-clause-holding : goal.allows_with-requires-clause-holding
allows_with-requires-clause-holding c =
    (placed_as _ _ c.args.drafts.now c.args.touched.now c.self.view_is c.requires.placeable).holding

pub allows_with-requires-clause-fitting : goal.allows_with-requires-clause-fitting
allows_with-requires-clause-fitting c =
    (placed_as _ _ c.args.drafts.now c.args.touched.now c.self.view_is c.requires.placeable).fitting

pub allows_with-requires-clause-changes : goal.allows_with-requires-clause-changes
allows_with-requires-clause-changes c =
    (placed_as _ _ c.args.drafts.now c.args.touched.now c.self.view_is c.requires.placeable).changes

pub allows_with-requires-clause-known : goal.allows_with-requires-clause-known
allows_with-requires-clause-known c =
    (placed_as _ _ c.args.drafts.now c.args.touched.now c.self.view_is c.requires.placeable).known

pub allows_with-requires-clause-fronts : goal.allows_with-requires-clause-fronts
allows_with-requires-clause-fronts c =
    subst (λ (h : HeldState). AreFrontsWithin h.plan.routes c.args.drafts.now) (sym c.self.view_is) c.requires.within

pub allows_with-requires-clause-free : goal.allows_with-requires-clause-free
allows_with-requires-clause-free c = ap length c.deref.ensures.value ∙ c.in-Ok.ensures.answers.sized

pub returns-in-Ok-allows_with-clause-fronts : goal.returns-in-Ok-allows_with-clause-fronts
returns-in-Ok-allows_with-clause-fronts c =
    subst (λ (h : HeldState). AreFreezesKept h.pins h.plan.routes (routes_drafted h c.args.drafts.now)) c.self.view_is c.in-Ok-allows_with.ensures.0

pub returns-in-Err-Frozen-clause-stop : goal.returns-in-Err-Frozen-clause-stop
returns-in-Err-Frozen-clause-stop c =
    let fault = rw c.in-Err-Frozen.field-0-is at c.in-Err-Frozen.ensures in
    subst (λ (h : HeldState). IsFirstThawed h.pins h.plan.routes (routes_drafted h c.args.drafts.now) (named_vehicles (drafts_of h.plan.routes c.args.drafts.now)) c.in-Err-Frozen.vehicle)
    c.self.view_is fault

pub returns-in-Err-Frozen-clause-work : goal.returns-in-Err-Frozen-clause-work
returns-in-Err-Frozen-clause-work c = some_probed _ _ _ c.in-Ok.ensures.whole
