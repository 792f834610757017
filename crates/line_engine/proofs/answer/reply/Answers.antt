use Rattle.std.proofs.Common.{◌∙◌, ap, inl, inr, refl}
use Rattle.board_rules.specs.declared.reply.Denial.TheVariants as denials
use Rattle.board_rules.specs.declared.reply.Fault.TheVariants as faults
use Rattle.board_rules.specs.declared.reply.Reply.TheVariants as replies
use Rattle.line_engine.specs.Answers.{Faulted, Replied}
use Rattle.line_engine.proofs.Faulted.{faulted_as, lost, no_result, replied_as}
use Rattle.line_engine.proofs.Sending.{nil_first}
use Rattle.line_engine.proofs.answer.reply.Goals as goal

pub returns-in-Ok-Done : goal.returns-in-Ok-Done
returns-in-Ok-Done g c =
    record { ready = c.submit.ensures.ready; ok = (Replied replies.Done, replied_as g.F.Front.step g.F.Front.refuses _ _ _ _ replies.Done c.in-Ok-Done.field-0-is c.in-Ok-Done.ensures.ok, refl, refl, refl); err = tt }

pub returns-in-Ok-Denied-NoSession : goal.returns-in-Ok-Denied-NoSession
returns-in-Ok-Denied-NoSession g c =
    let is = c.in-Ok-Denied-NoSession.field-0-is ∙ ap replies.Denied c.in-Ok-Denied-NoSession.field-0-0-is in
    record { ready = c.submit.ensures.ready; ok = (Replied (replies.Denied denials.NoSession), replied_as g.F.Front.step g.F.Front.refuses _ _ _ _ (replies.Denied denials.NoSession) is c.in-Ok-Denied-NoSession.ensures.ok, refl, refl, refl); err = tt }

pub returns-in_err-reply_line-in-Ok : goal.returns-in_err-reply_line-in-Ok
returns-in_err-reply_line-in-Ok g c =
    record { ready = c.submit.ensures.ready; ok = no_result _ _ c.from_residual.ensures.0; err = lost _ (inr (Replied c.in-Ok.reply, c.in-Ok.ensures.ok)) }

pub returns-in-Err-NoMemory : goal.returns-in-Err-NoMemory
returns-in-Err-NoMemory g c =
    record { ready = c.submit.ensures.ready; ok = tt; err = inl (faulted_as g.F.Front.step g.F.Front.refuses _ _ _ _ faults.NoMemory c.in-Err-NoMemory.field-0-is c.in-Err-NoMemory.ensures.err) }

pub returns-in_err-fault_line-in-Err-OutOfTurn : goal.returns-in_err-fault_line-in-Err-OutOfTurn
returns-in_err-fault_line-in-Err-OutOfTurn g c =
    record { ready = c.submit.ensures.ready; ok = no_result _ _ c.from_residual-in_err-fault_line-in-Err-OutOfTurn.ensures.0; err = lost _ (inr (Faulted faults.OutOfTurn, faulted_as g.F.Front.step g.F.Front.refuses _ _ _ _ faults.OutOfTurn c.in-Err-OutOfTurn.field-0-is c.in-Err-OutOfTurn.ensures.err)) }

pub returns-in_ok-fault_line-in-Err-OutOfTurn : goal.returns-in_ok-fault_line-in-Err-OutOfTurn
returns-in_ok-fault_line-in-Err-OutOfTurn g c =
    record { ready = c.submit.ensures.ready; ok = (Faulted faults.OutOfTurn, faulted_as g.F.Front.step g.F.Front.refuses _ _ _ _ faults.OutOfTurn c.in-Err-OutOfTurn.field-0-is c.in-Err-OutOfTurn.ensures.err, nil_first _ _ _ c.requires.none c.in_ok-fault_line-in-Err-OutOfTurn.ensures, refl, refl); err = tt }

pub returns-in_err-fault_line-in-Err-Full : goal.returns-in_err-fault_line-in-Err-Full
returns-in_err-fault_line-in-Err-Full g c =
    record { ready = c.submit.ensures.ready; ok = no_result _ _ c.from_residual-in_err-fault_line-in-Err-Full.ensures.0; err = lost _ (inr (Faulted faults.Full, faulted_as g.F.Front.step g.F.Front.refuses _ _ _ _ faults.Full c.in-Err-Full.field-0-is c.in-Err-Full.ensures.err)) }

pub returns-in_ok-fault_line-in-Err-Full : goal.returns-in_ok-fault_line-in-Err-Full
returns-in_ok-fault_line-in-Err-Full g c =
    record { ready = c.submit.ensures.ready; ok = (Faulted faults.Full, faulted_as g.F.Front.step g.F.Front.refuses _ _ _ _ faults.Full c.in-Err-Full.field-0-is c.in-Err-Full.ensures.err, nil_first _ _ _ c.requires.none c.in_ok-fault_line-in-Err-Full.ensures, refl, refl); err = tt }
