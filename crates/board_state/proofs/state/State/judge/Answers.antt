use Rattle.std.proofs.Common.{◌≡◌, ◌∙◌, refl, sym, ap, subst}
use Rattle.std.specs.Result.{IfOk, MatchResult}
use Rattle.dimension_core.specs.Setup.{setting}
use Rattle.board_rules.specs.declared.call.Call.{Call}
use Rattle.board_rules.specs.declared.reply.Reply.{Reply}
use Rattle.policy_core.specs.State.{PolicyState}
use Rattle.board_rules.specs.declared.call.Call.TheVariants.{Policy}
use Rattle.board_rules.specs.Holds.{call_of}
use Rattle.board_rules.specs.Policies.{policy_reply}
use Rattle.board_rules.specs.Step.{IsReply, after}
use Rattle.board_state.specs.Changes.{WillHold, IsGivenUp, IsSettleable, Tries}
use Rattle.board_state.specs.Held.{HeldState}
use Rattle.board_state.specs.Work.{WorksJust, WorksAtMost, IsWorkOf, call_asks, call_probes}
use Rattle.board_state.proofs.Commanding.{always, if_ok, untried_change, untried_answer}
use Rattle.board_state.proofs.Holding.{answer_ready, pins_answered, hold_work, hold_most, hold_no_policy, proposal_no_policy, command_settles}
use Rattle.board_state.proofs.Stepping.{policy_call}
use Rattle.board_state.proofs.WorkLaws.{probe_most}
use Rattle.board_state.proofs.state.State.judge.Goals as goal

pub returns-in-Propose-clause-reply : goal.returns-in-Propose-clause-reply
returns-in-Propose-clause-reply g c state holds =
    subst (λ (x : Call). IfOk c.answer_proposal.result (λ r. ∥ IsReply (setting c.args.setup.now) state x r.0 ∥₁)) (sym c.in-Propose.is) (c.answer_proposal.ensures.reply state holds)

pub returns-in-Propose-clause-work : goal.returns-in-Propose-clause-work
returns-in-Propose-clause-work g c =
    subst (λ (x : Call). IfOk c.answer_proposal.result (λ r. IsWorkOf (setting c.args.setup.now) c.args.self.now.pins c.args.self.now.plan.routes x r.0 c.args.meter.now c.answer_proposal.new.meter)) (sym c.in-Propose.is) c.answer_proposal.ensures.work

pub returns-in-Propose-clause-most : goal.returns-in-Propose-clause-most
returns-in-Propose-clause-most g c =
    subst (λ (x : Call). WorksAtMost c.args.meter.now c.answer_proposal.new.meter
    (call_asks (setting c.args.setup.now) c.args.self.now.plan.routes x) (call_probes c.args.self.now.pins c.args.self.now.plan.routes x)) (sym c.in-Propose.is) c.answer_proposal.ensures.most

pub returns-in-Some-clause-ready : goal.returns-in-Some-clause-ready
returns-in-Some-clause-ready g c = answer_ready c.args.self.now c.judge_hold.result c.answered.result.1 c.answered.ensures.change c.judge_hold.ensures.ready

pub returns-in-Some-clause-reply : goal.returns-in-Some-clause-reply
returns-in-Some-clause-reply g c state holds =
    let s = setting c.args.setup.now in
    subst (λ (x : Call). ∥ IsReply s state x c.answered.result.0 ∥₁) c.in-Some.ensures
    (subst (λ (reply : Reply). ∥ IsReply s state (call_of c.in-Some.hold) reply ∥₁) (sym c.answered.ensures.reply) (c.judge_hold.ensures.reply state holds))

pub returns-in-Some-clause-change : goal.returns-in-Some-clause-change
returns-in-Some-clause-change g c state holds =
    let s = setting c.args.setup.now in
    let held = c.args.self.now in
    subst (λ (x : Call). WillHold s held c.answered.result.1 (after state x c.answered.result.0)) c.in-Some.ensures
    (pins_answered s held state (call_of c.in-Some.hold) c.judge_hold.result c.answered.result.0 c.answered.result.1 c.answered.ensures.reply c.answered.ensures.change
    (c.judge_hold.ensures.change state holds))

pub returns-in-Some-clause-work : goal.returns-in-Some-clause-work
returns-in-Some-clause-work g c =
    subst (λ (x : Call). IsWorkOf (setting c.args.setup.now) c.args.self.now.pins c.args.self.now.plan.routes x c.answered.result.0 c.args.meter.now c.judge_hold.new.meter) c.in-Some.ensures
    (hold_work (setting c.args.setup.now) c.args.self.now.pins c.args.self.now.plan.routes c.in-Some.hold c.answered.result.0 _ _ c.judge_hold.ensures.work)

pub returns-in-Some-clause-most : goal.returns-in-Some-clause-most
returns-in-Some-clause-most g c =
    subst (λ (x : Call). WorksAtMost c.args.meter.now c.judge_hold.new.meter
    (call_asks (setting c.args.setup.now) c.args.self.now.plan.routes x) (call_probes c.args.self.now.pins c.args.self.now.plan.routes x)) c.in-Some.ensures
    (hold_most (setting c.args.setup.now) c.args.self.now.pins c.args.self.now.plan.routes c.in-Some.hold _ _ c.judge_hold.ensures.work)

pub returns-in-Some-clause-given_up : goal.returns-in-Some-clause-given_up
returns-in-Some-clause-given_up g c session command is = absurd (hold_no_policy c.in-Some.hold session command (c.in-Some.ensures ∙ is))

pub returns-in-Policy-clause-change : goal.returns-in-Policy-clause-change
returns-in-Policy-clause-change g c state holds =
    policy_call (setting c.args.setup.now) c.args.self.now c.judge_command.new.self state c.args.call.now c.in-Policy.session c.in-Policy.command c.judge_command.result c.in-Policy.is holds
    c.judge_command.ensures.kept c.judge_command.ensures.reply c.judge_command.ensures.change

pub returns-in-Propose-clause-untried : goal.returns-in-Propose-clause-untried
returns-in-Propose-clause-untried g c tried =
    subst (λ (h : HeldState). MatchResult c.answer_proposal.result (λ r. IsGivenUp r.1 h.policy) (λ _. h.policy.tried ≡ h.policy.now)) (sym c.answer_proposal.ensures.same)
    (untried_answer c.answer_proposal.result c.args.self.now.policy tried)

pub returns-in-Some-clause-untried : goal.returns-in-Some-clause-untried
returns-in-Some-clause-untried g c tried = untried_change c.answered.result.1 c.args.self.now.policy tried

pub returns-in-Policy-clause-untried : goal.returns-in-Policy-clause-untried
returns-in-Policy-clause-untried g c tried = c.judge_command.ensures.given_up

pub answer_proposal-requires : goal.answer_proposal-requires
answer_proposal-requires g c = c.requires

pub judge_hold-requires : goal.judge_hold-requires
judge_hold-requires g c = c.requires

pub judge_command-requires-clause-compiled : goal.judge_command-requires-clause-compiled
judge_command-requires-clause-compiled g c = c.requires.compiled

pub judge_command-requires-clause-sizes : goal.judge_command-requires-clause-sizes
judge_command-requires-clause-sizes g c = c.requires.sizes

pub returns-in-Propose-clause-kept : goal.returns-in-Propose-clause-kept
returns-in-Propose-clause-kept g c =
    subst (λ (h : HeldState). Tries c.args.self.now h) (sym c.answer_proposal.ensures.same) refl

pub returns-in-Propose-clause-ready : goal.returns-in-Propose-clause-ready
returns-in-Propose-clause-ready g c =
    subst (λ (h : HeldState). IfOk c.answer_proposal.result (λ r. IsSettleable h r.1)) (sym c.answer_proposal.ensures.same) c.answer_proposal.ensures.ready

pub returns-in-Propose-clause-change : goal.returns-in-Propose-clause-change
returns-in-Propose-clause-change g c state holds =
    let s = setting c.args.setup.now in
    subst (λ (h : HeldState). IfOk c.answer_proposal.result (λ r. WillHold s h r.1 (after state c.args.call.now r.0))) (sym c.answer_proposal.ensures.same)
    (subst (λ (x : Call). IfOk c.answer_proposal.result (λ r. WillHold s c.args.self.now r.1 (after state x r.0))) (sym c.in-Propose.is) (c.answer_proposal.ensures.change state holds))

pub returns-in-Propose-clause-given_up : goal.returns-in-Propose-clause-given_up
returns-in-Propose-clause-given_up g c session command is =
    absurd (proposal_no_policy _ _ _ _ _ (sym c.in-Propose.is ∙ is))

pub returns-in-Policy-clause-kept : goal.returns-in-Policy-clause-kept
returns-in-Policy-clause-kept g c = c.judge_command.ensures.kept

pub returns-in-Policy-clause-ready : goal.returns-in-Policy-clause-ready
returns-in-Policy-clause-ready g c =
    if_ok _ (λ r. IsSettleable c.judge_command.new.self r.1) c.judge_command.result (λ r will. command_settles c.judge_command.new.self r.1 will.ready) c.judge_command.ensures.change

pub returns-in-Policy-clause-given_up : goal.returns-in-Policy-clause-given_up
returns-in-Policy-clause-given_up g c session command is = c.judge_command.ensures.given_up

pub returns-in-Policy-clause-reply : goal.returns-in-Policy-clause-reply
returns-in-Policy-clause-reply g c state holds =
    let s = setting c.args.setup.now in
    subst (λ (x : Call). IfOk c.judge_command.result (λ r. ∥ IsReply s state x r.0 ∥₁)) (sym c.in-Policy.is)
    (if_ok _ (λ r. ∥ IsReply s state (Policy c.in-Policy.session c.in-Policy.command) r.0 ∥₁) c.judge_command.result
    (λ r is. ∣ is ∙ ap (λ (p : PolicyState). policy_reply p c.in-Policy.session c.in-Policy.command) holds.policy ∣₁) c.judge_command.ensures.reply)

pub returns-in-Policy-clause-work : goal.returns-in-Policy-clause-work
returns-in-Policy-clause-work g c =
    subst (λ (x : Call). IfOk c.judge_command.result (λ r. IsWorkOf (setting c.args.setup.now) c.args.self.now.pins c.args.self.now.plan.routes x r.0 c.args.meter.now c.judge_command.new.meter))
    (sym c.in-Policy.is) (always (WorksJust c.args.meter.now c.judge_command.new.meter 0 1) c.judge_command.result c.judge_command.ensures.work)

pub returns-in-Policy-clause-most : goal.returns-in-Policy-clause-most
returns-in-Policy-clause-most g c =
    subst (λ (x : Call). WorksAtMost c.args.meter.now c.judge_command.new.meter
    (call_asks (setting c.args.setup.now) c.args.self.now.plan.routes x) (call_probes c.args.self.now.pins c.args.self.now.plan.routes x)) (sym c.in-Policy.is)
    (probe_most _ _ c.judge_command.ensures.work)
