use Rattle.std.proofs.Common.{◌≤◌, inl, inr, length, sym, subst}
use Rattle.plan_core.specs.Drafts.{AreFrontsWithin, drafts_of}
use Rattle.plan_core.specs.Plan.{AreApart, with_routes}
use Rattle.pin_core.specs.Pins.{IsHeld, DoPinsHold}
use Rattle.board_state.specs.Held.{HeldState, routes_drafted}
use Rattle.board_state.proofs.WorkLaws.{just_idle}
use Rattle.board_state.proofs.Overrides.{leaves_test, stays_test}
use Rattle.board_state.proofs.state.State.may_leave.Goals as goal

pub returns-clause-leaves : goal.returns-clause-leaves
returns-clause-leaves c = λ may.
    subst (λ (h : HeldState). ¬ IsHeld h.pins (with_routes (drafts_of h.plan.routes c.args.drafts.now) h.plan.routes) c.args.customer) c.self.view_is c.if-not-leaves.ensures

pub returns-clause-work : goal.returns-clause-work
returns-clause-work c =
    let held = c.args.self.now in
    let others = with_routes (drafts_of held.plan.routes c.args.drafts.now) held.plan.routes in
    let out = subst (λ (h : HeldState). ¬ IsHeld h.pins (with_routes (drafts_of h.plan.routes c.args.drafts.now) h.plan.routes) c.args.customer) c.self.view_is c.if-not-leaves.ensures in
    rw (leaves_test held.pins others c.args.customer out (c.pins_after_commits.ensures.gone held.pins others c.args.customer c.requires.low out)) c.may.ensures.work

pub returns-then-not-leaves-clause-work : goal.returns-then-not-leaves-clause-work
returns-then-not-leaves-clause-work c =
    let held = c.args.self.now in
    let others = with_routes (drafts_of held.plan.routes c.args.drafts.now) held.plan.routes in
    let stays = subst (λ (h : HeldState). IsHeld h.pins (with_routes (drafts_of h.plan.routes c.args.drafts.now) h.plan.routes) c.args.customer) c.self.view_is c.if-not-leaves.ensures in
    rw (stays_test held.pins others c.args.customer stays (λ v stands pinned. c.pins_after_commits.ensures.kept held.pins others c.args.customer v c.requires.low stands pinned)) (just_idle _)

pub leaves-requires-clause-holding : goal.leaves-requires-clause-holding
leaves-requires-clause-holding c =
    subst (λ (h : HeldState). DoPinsHold h.pins h.plan.routes) (sym c.self.view_is) c.requires.holding

pub leaves-requires-clause-high : goal.leaves-requires-clause-high
leaves-requires-clause-high c =
    subst (λ (h : HeldState). c.args.customer ≤ length h.pins.pins) (sym c.self.view_is) c.requires.high

pub leaves-requires-clause-fronts : goal.leaves-requires-clause-fronts
leaves-requires-clause-fronts c =
    subst (λ (h : HeldState). AreFrontsWithin h.plan.routes c.args.drafts.now) (sym c.self.view_is) c.requires.within

pub leaves-requires-clause-apart : goal.leaves-requires-clause-apart
leaves-requires-clause-apart c =
    subst (λ (h : HeldState). AreApart (length h.plan.routes) (drafts_of h.plan.routes c.args.drafts.now)) (sym c.self.view_is) c.requires.apart

pub returns-clause-may : goal.returns-clause-may
returns-clause-may c = inr c.may.ensures.value

pub returns-then-not-leaves-clause-may : goal.returns-then-not-leaves-clause-may
returns-then-not-leaves-clause-may c =
    inl (subst (λ (h : HeldState). IsHeld h.pins (routes_drafted h c.args.drafts.now) c.args.customer) c.self.view_is c.if-not-leaves.ensures)
