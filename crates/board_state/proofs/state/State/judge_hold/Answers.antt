use Rattle.std.proofs.Common.{◌∙◌, ℕ, List, None, refl, sym, ap, subst}
use Rattle.dimension_core.specs.Setup.{setting}
use Rattle.pin_core.specs.Pins.{PinState, with_pin, with_front}
use Rattle.board_rules.specs.declared.hold.Hold.{Hold}
use Rattle.board_rules.specs.Holds.{call_of}
use Rattle.board_rules.specs.declared.call.Call.TheVariants.{Pin, Unpin, Freeze, Thaw}
use Rattle.board_rules.specs.Pinning.{pinned}
use Rattle.board_rules.specs.Rules.{basis_of}
use Rattle.board_rules.specs.Step.{IsReply, after, refused_by}
use Rattle.board_state.specs.Held.{held_basis}
use Rattle.board_state.specs.Changes.{WillHoldPins}
use Rattle.board_state.specs.Replies.{hold_reply}
use Rattle.board_state.proofs.Holding.{pin_same, unpin_same, freeze_same, thaw_same, pins_made, pins_ready}
use Rattle.board_state.proofs.state.State.judge_hold.Goals as goal

pub returns-in-Pin-clause-ready : goal.returns-in-Pin-clause-ready
returns-in-Pin-clause-ready g c =
    let held = c.args.self.now in
    pins_ready held c.judge_pin.result (pinned held.plan.routes c.in-Pin.customer held.pins) c.judge_pin.ensures.change

pub returns-in-Pin-clause-reply : goal.returns-in-Pin-clause-reply
returns-in-Pin-clause-reply g c state holds =
    let s = setting c.args.setup.now in
    let agree = c.agrees.ensures s state holds c.requires.sized c.in-Pin.session in
    let due = c.judge_pin.ensures.refused ∙ pin_same s (held_basis c.args.self.now c.in-Pin.session) (basis_of state c.in-Pin.session) c.in-Pin.customer agree in
    subst (λ (x : Hold). ∥ IsReply s state (call_of x) (hold_reply c.judge_pin.result) ∥₁) (sym c.in-Pin.is) ∣ ap refused_by due ∣₁

pub returns-in-Pin-clause-change : goal.returns-in-Pin-clause-change
returns-in-Pin-clause-change g c state holds =
    let s = setting c.args.setup.now in
    let held = c.args.self.now in
    subst (λ (x : Hold). WillHoldPins s held c.judge_pin.result (after state (call_of x) (hold_reply c.judge_pin.result))) (sym c.in-Pin.is)
    (pins_made s held state (Pin c.in-Pin.session c.in-Pin.customer) c.judge_pin.result (pinned held.plan.routes c.in-Pin.customer held.pins) (pinned state.routes c.in-Pin.customer state.pins)
    holds refl (λ e. refl) c.judge_pin.ensures.change (ap (λ (rs : List (List ℕ)). pinned rs c.in-Pin.customer held.pins) holds.routes ∙ ap (λ (p : PinState). pinned state.routes c.in-Pin.customer p) holds.pins))

pub returns-in-Unpin-clause-ready : goal.returns-in-Unpin-clause-ready
returns-in-Unpin-clause-ready g c =
    let held = c.args.self.now in
    pins_ready held c.judge_unpin.result (with_pin c.in-Unpin.customer None held.pins) c.judge_unpin.ensures.change

pub returns-in-Unpin-clause-reply : goal.returns-in-Unpin-clause-reply
returns-in-Unpin-clause-reply g c state holds =
    let s = setting c.args.setup.now in
    let agree = c.agrees.ensures s state holds c.requires.sized c.in-Unpin.session in
    let due = c.judge_unpin.ensures.refused ∙ unpin_same s (held_basis c.args.self.now c.in-Unpin.session) (basis_of state c.in-Unpin.session) c.in-Unpin.customer agree in
    subst (λ (x : Hold). ∥ IsReply s state (call_of x) (hold_reply c.judge_unpin.result) ∥₁) (sym c.in-Unpin.is) ∣ ap refused_by due ∣₁

pub returns-in-Unpin-clause-change : goal.returns-in-Unpin-clause-change
returns-in-Unpin-clause-change g c state holds =
    let s = setting c.args.setup.now in
    let held = c.args.self.now in
    subst (λ (x : Hold). WillHoldPins s held c.judge_unpin.result (after state (call_of x) (hold_reply c.judge_unpin.result))) (sym c.in-Unpin.is)
    (pins_made s held state (Unpin c.in-Unpin.session c.in-Unpin.customer) c.judge_unpin.result (with_pin c.in-Unpin.customer None held.pins) (with_pin c.in-Unpin.customer None state.pins)
    holds refl (λ e. refl) c.judge_unpin.ensures.change (ap (λ (p : PinState). with_pin c.in-Unpin.customer None p) holds.pins))

pub returns-in-Freeze-clause-ready : goal.returns-in-Freeze-clause-ready
returns-in-Freeze-clause-ready g c =
    let held = c.args.self.now in
    pins_ready held c.judge_freeze.result (with_front c.in-Freeze.vehicle c.in-Freeze.length held.pins) c.judge_freeze.ensures.change

pub returns-in-Freeze-clause-reply : goal.returns-in-Freeze-clause-reply
returns-in-Freeze-clause-reply g c state holds =
    let s = setting c.args.setup.now in
    let agree = c.agrees.ensures s state holds c.requires.sized c.in-Freeze.session in
    let due = c.judge_freeze.ensures.refused ∙ freeze_same s (held_basis c.args.self.now c.in-Freeze.session) (basis_of state c.in-Freeze.session) c.in-Freeze.vehicle c.in-Freeze.length agree in
    subst (λ (x : Hold). ∥ IsReply s state (call_of x) (hold_reply c.judge_freeze.result) ∥₁) (sym c.in-Freeze.is) ∣ ap refused_by due ∣₁

pub returns-in-Freeze-clause-change : goal.returns-in-Freeze-clause-change
returns-in-Freeze-clause-change g c state holds =
    let s = setting c.args.setup.now in
    let held = c.args.self.now in
    subst (λ (x : Hold). WillHoldPins s held c.judge_freeze.result (after state (call_of x) (hold_reply c.judge_freeze.result))) (sym c.in-Freeze.is)
    (pins_made s held state (Freeze c.in-Freeze.session c.in-Freeze.vehicle c.in-Freeze.length) c.judge_freeze.result (with_front c.in-Freeze.vehicle c.in-Freeze.length held.pins) (with_front c.in-Freeze.vehicle c.in-Freeze.length state.pins)
    holds refl (λ e. refl) c.judge_freeze.ensures.change (ap (λ (p : PinState). with_front c.in-Freeze.vehicle c.in-Freeze.length p) holds.pins))

pub returns-in-Thaw-clause-ready : goal.returns-in-Thaw-clause-ready
returns-in-Thaw-clause-ready g c =
    let held = c.args.self.now in
    pins_ready held c.judge_thaw.result (with_front c.in-Thaw.vehicle c.in-Thaw.length held.pins) c.judge_thaw.ensures.change

pub returns-in-Thaw-clause-reply : goal.returns-in-Thaw-clause-reply
returns-in-Thaw-clause-reply g c state holds =
    let s = setting c.args.setup.now in
    let agree = c.agrees.ensures s state holds c.requires.sized c.in-Thaw.session in
    let due = c.judge_thaw.ensures.refused ∙ thaw_same s (held_basis c.args.self.now c.in-Thaw.session) (basis_of state c.in-Thaw.session) c.in-Thaw.vehicle c.in-Thaw.length agree in
    subst (λ (x : Hold). ∥ IsReply s state (call_of x) (hold_reply c.judge_thaw.result) ∥₁) (sym c.in-Thaw.is) ∣ ap refused_by due ∣₁

pub returns-in-Thaw-clause-change : goal.returns-in-Thaw-clause-change
returns-in-Thaw-clause-change g c state holds =
    let s = setting c.args.setup.now in
    let held = c.args.self.now in
    subst (λ (x : Hold). WillHoldPins s held c.judge_thaw.result (after state (call_of x) (hold_reply c.judge_thaw.result))) (sym c.in-Thaw.is)
    (pins_made s held state (Thaw c.in-Thaw.session c.in-Thaw.vehicle c.in-Thaw.length) c.judge_thaw.result (with_front c.in-Thaw.vehicle c.in-Thaw.length held.pins) (with_front c.in-Thaw.vehicle c.in-Thaw.length state.pins)
    holds refl (λ e. refl) c.judge_thaw.ensures.change (ap (λ (p : PinState). with_front c.in-Thaw.vehicle c.in-Thaw.length p) holds.pins))
