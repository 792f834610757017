-- Calls on pins and frozen fronts.
use Rattle.std.proofs.Common.{◌≡◌, ℕ, true, false, List, Ok, Err, Result, sym, ap, refl, ◌∙◌, subst}
use Rattle.std.specs.Prelude.{MatchResult, IfOk}
use Rattle.callback_store.specs.declared.meter.Meter.{Meter}
use Rattle.dimension_core.specs.Setting.{Setting}
use Rattle.pin_core.specs.Pins.{PinState}
use Rattle.move_core.specs.declared.moves.Move.{Move}
use Rattle.rbac_core.specs.declared.command.Command.{Command}
use Rattle.board_rules.specs.State.{BoardState}
use Rattle.board_rules.specs.Rules.{Basis, Agree}
use Rattle.board_rules.specs.Pinning.{pin_guard, freeze_guard, pin_refusal, unpin_refusal, freeze_refusal, thaw_refusal}
use Rattle.board_rules.specs.declared.hold.Hold.{Hold}
use Rattle.board_rules.specs.declared.hold.Hold.TheVariants.{Pin, Unpin, Freeze, Thaw}
use Rattle.board_rules.specs.declared.hold.HoldRefusal.{HoldRefusal}
use Rattle.board_rules.specs.Holds.{call_of, refusal_for, is_hold}
use Rattle.board_rules.specs.declared.call.Call.{Call}
use Rattle.board_rules.specs.declared.call.Call.TheVariants.{Policy, Propose}
use Rattle.board_rules.specs.declared.reply.Refusal.{Refusal}
use Rattle.board_rules.specs.declared.reply.Reply.{Reply}
use Rattle.board_rules.specs.declared.reply.Reply.TheVariants.{Done, Refused}
use Rattle.board_rules.specs.Step.{after}
use Rattle.board_state.specs.declared.change.Change.{Change}
use Rattle.board_state.specs.declared.change.Change.TheVariants.{Nothing, Replace, Pins, Command as CommandChange}
use Rattle.board_state.specs.declared.change.PinChange.{PinChange}
use Rattle.board_state.specs.Held.{HeldState, Holds}
use Rattle.board_state.specs.Changes.{WillHold, WillHoldPins, IsSettleable, IsCommandReady, PinsWillBe}
use Rattle.board_state.specs.Replies.{hold_reply}
use Rattle.board_state.specs.Work.{WorksJust, WorksAtMost, IsWorkOf, call_asks, call_probes}
use Rattle.board_state.proofs.Stepping.{pins_will, stays}
use Rattle.board_state.proofs.WorkLaws.{probe_most}

-- a value that does not depend on the commits is the same for facts that agree
agreeing : {X : Type 0} (s : Setting) (b c : Basis) → Agree s b c → (F : Basis → X) → F (record c { is_changed = b.is_changed }) ≡ F c → F b ≡ F c
agreeing s b c a F same =
    ap F (λ i. record {
      is_open = a.is_open i;
      may = λ operation object. a.may operation object i;
      version = a.version i;
      is_changed = b.is_changed;
      routes = a.routes i;
      pins = a.pins i;
    }) ∙ same

pub pin_same : (s : Setting) (b c : Basis) (customer : ℕ) → Agree s b c → pin_refusal s b customer ≡ pin_refusal s c customer
unfolding pin_refusal pin_guard
pin_same s b c customer a = agreeing s b c a (λ x. pin_refusal s x customer) refl

pub unpin_same : (s : Setting) (b c : Basis) (customer : ℕ) → Agree s b c → unpin_refusal s b customer ≡ unpin_refusal s c customer
unfolding unpin_refusal pin_guard
unpin_same s b c customer a = agreeing s b c a (λ x. unpin_refusal s x customer) refl

pub freeze_same : (s : Setting) (b c : Basis) (vehicle n : ℕ) → Agree s b c → freeze_refusal s b vehicle n ≡ freeze_refusal s c vehicle n
unfolding freeze_refusal freeze_guard
freeze_same s b c vehicle n a = agreeing s b c a (λ x. freeze_refusal s x vehicle n) refl

pub thaw_same : (s : Setting) (b c : Basis) (vehicle n : ℕ) → Agree s b c → thaw_refusal s b vehicle n ≡ thaw_refusal s c vehicle n
unfolding thaw_refusal freeze_guard
thaw_same s b c vehicle n a = agreeing s b c a (λ x. thaw_refusal s x vehicle n) refl

-- what a judged call on pins makes of what is held
pub pins_made : (s : Setting) (held : HeldState) (state : BoardState) (call : Call) (judged : Result PinChange HoldRefusal) (old next : PinState) → Holds s held state
    → after state call Done ≡ record state { pins = next } → ((e : Refusal) → after state call (Refused e) ≡ state)
    → IfOk judged (λ made. PinsWillBe held made old) → old ≡ next → WillHoldPins s held judged (after state call (hold_reply judged))
pins_made s held state call (Ok made) old next holds done none will same =
    subst (λ (b : BoardState). WillHold s held (Pins made) b) (sym done) (pins_will s held state holds made old next will same)
pins_made s held state call (Err e) old next holds done none will same = subst (λ (b : BoardState). Holds s held b) (sym (none (refusal_for e))) holds

pub pins_ready : (held : HeldState) (judged : Result PinChange HoldRefusal) (next : PinState) → IfOk judged (λ made. PinsWillBe held made next) → IfOk judged (λ made. IsSettleable held (Pins made))
pins_ready held (Ok made) next will = will.ready
pins_ready held (Err e) next will = tt

-- the same by the change in its answer
pub pins_answered : (s : Setting) (held : HeldState) (state : BoardState) (call : Call) (judged : Result PinChange HoldRefusal) (reply : Reply) (change : Change)
    → reply ≡ hold_reply judged → MatchResult judged (λ made. change ≡ Pins made) (λ e. change ≡ Nothing)
    → WillHoldPins s held judged (after state call (hold_reply judged)) → WillHold s held change (after state call reply)
pins_answered s held state call (Ok made) reply change said is will =
    subst (λ (x : Change). WillHold s held x (after state call reply)) (sym is)
    (subst (λ (x : Reply). WillHold s held (Pins made) (after state call x)) (sym said) will)
pins_answered s held state call (Err e) reply change said is will =
    subst (λ (x : Change). WillHold s held x (after state call reply)) (sym is)
    (subst (λ (x : Reply). WillHold s held Nothing (after state call x)) (sym said) (stays s held (after state call (Refused (refusal_for e))) will))

pub answer_ready : (held : HeldState) (judged : Result PinChange HoldRefusal) (change : Change) → MatchResult judged (λ made. change ≡ Pins made) (λ e. change ≡ Nothing)
    → IfOk judged (λ made. IsSettleable held (Pins made)) → IsSettleable held change
answer_ready held (Ok made) change is ready = subst (λ (x : Change). IsSettleable held x) (sym is) ready
answer_ready held (Err e) change is ready = subst (λ (x : Change). IsSettleable held x) (sym is) tt

-- such a call makes one probe
pub hold_work : (s : Setting) (pins : PinState) (routes : List (List ℕ)) (hold : Hold) (reply : Reply) (old new : Meter) → WorksJust old new 0 1
    → IsWorkOf s pins routes (call_of hold) reply old new
hold_work s pins routes (Pin session customer) reply old new one = one
hold_work s pins routes (Unpin session customer) reply old new one = one
hold_work s pins routes (Freeze session vehicle n) reply old new one = one
hold_work s pins routes (Thaw session vehicle n) reply old new one = one

pub hold_most : (s : Setting) (pins : PinState) (routes : List (List ℕ)) (hold : Hold) (old new : Meter) → WorksJust old new 0 1
    → WorksAtMost old new (call_asks s routes (call_of hold)) (call_probes pins routes (call_of hold))
hold_most s pins routes (Pin session customer) old new one = probe_most old new one
hold_most s pins routes (Unpin session customer) old new one = probe_most old new one
hold_most s pins routes (Freeze session vehicle n) old new one = probe_most old new one
hold_most s pins routes (Thaw session vehicle n) old new one = probe_most old new one

is_hold_call : (hold : Hold) → is_hold (call_of hold) ≡ true
is_hold_call (Pin session customer) = refl
is_hold_call (Unpin session customer) = refl
is_hold_call (Freeze session vehicle n) = refl
is_hold_call (Thaw session vehicle n) = refl

-- and it is no policy command
pub hold_no_policy : (hold : Hold) (session : ℕ) (command : Command) → call_of hold ≡ Policy session command → ⊥
hold_no_policy hold session command is =
    let no : true ≡ false = sym (is_hold_call hold) ∙ ap (λ (x : Call). is_hold x) is in cc

-- and neither is a proposal
pub proposal_no_policy : (session base number : ℕ) (mv : Move) (command : Command) → Propose session base mv ≡ Policy number command → ⊥
proposal_no_policy session base number mv command is = absurd cc

-- the change of a policy command may be put in place
pub command_settles : (held : HeldState) (change : Change) → IsCommandReady held.policy held.tables change → IsSettleable held change
command_settles held Nothing ready = tt
command_settles held (Replace commit) ready = absurd ready
command_settles held (Pins made) ready = absurd ready
command_settles held (CommandChange rows command) ready = ready
