use Rattle.std.proofs.Common.{sym, subst}
use Rattle.dimension_core.specs.Setup.{setting}
use Rattle.board_rules.specs.declared.reply.Reply.{Reply}
use Rattle.board_rules.specs.Holds.{call_of, reply_to}
use Rattle.board_rules.specs.Step.{IsReply, after}
use Rattle.board_state.specs.Changes.{WillHoldPins}
use Rattle.board_state.proofs.Holding.{hold_work, hold_most}
use Rattle.board_state.proofs.state.State.hold.Goals as goal

pub returns-clause-reply : goal.returns-clause-reply
returns-clause-reply g c state holds =
    subst (λ (reply : Reply). ∥ IsReply (setting c.args.setup.now) state (call_of c.args.hold) reply ∥₁) (sym c.finish.ensures.reply)
    (c.judge_hold-judged.ensures.reply state holds)

pub returns-clause-holds : goal.returns-clause-holds
returns-clause-holds g c state holds =
    let s = setting c.args.setup.now in
    let call = call_of c.args.hold in
    c.finish.ensures.holds s (after state call (reply_to c.finish.result))
    (subst (λ (reply : Reply). WillHoldPins s c.args.self.now c.judge_hold-judged.result (after state call reply)) (sym c.finish.ensures.reply)
    (c.judge_hold-judged.ensures.change state holds))

pub returns-clause-work : goal.returns-clause-work
returns-clause-work g c =
    hold_work (setting c.args.setup.now) c.args.self.now.pins c.args.self.now.plan.routes c.args.hold (reply_to c.finish.result) _ _ c.judge_hold-judged.ensures.work

pub returns-clause-most : goal.returns-clause-most
returns-clause-most g c =
    hold_most (setting c.args.setup.now) c.args.self.now.pins c.args.self.now.plan.routes c.args.hold _ _ c.judge_hold-judged.ensures.work
