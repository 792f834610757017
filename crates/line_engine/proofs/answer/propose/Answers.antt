use Rattle.std.proofs.Common.{◌∙◌, Ok, Err, ap, inl, inr, refl}
use Rattle.board_rules.specs.Step.{reply_by}
use Rattle.board_rules.specs.declared.reply.Denial.TheVariants as denials
use Rattle.board_rules.specs.declared.reply.Fault.TheVariants as faults
use Rattle.line_engine.specs.Answers.{Faulted, Replied}
use Rattle.line_engine.proofs.Faulted.{faulted_as, lost, no_result, ruled_as}
use Rattle.line_engine.proofs.Sending.{nil_first}
use Rattle.line_engine.proofs.answer.propose.Goals as goal

pub returns-in_err-committed_line-in-Ok-Ok : goal.returns-in_err-committed_line-in-Ok-Ok
returns-in_err-committed_line-in-Ok-Ok g c =
    record { ready = c.propose.ensures.ready; ok = no_result _ _ c.from_residual.ensures.0; err = lost _ (inr (Replied (reply_by (Ok c.in-Ok-Ok.version)), ruled_as g.F.Front.step g.F.Front.refuses _ _ _ _ (Ok c.in-Ok-Ok.version) c.in-Ok-Ok.field-0-is c.in-Ok-Ok.ensures.ok)) }

pub returns-in_ok-committed_line-in-Ok-Ok : goal.returns-in_ok-committed_line-in-Ok-Ok
returns-in_ok-committed_line-in-Ok-Ok g c =
    record { ready = c.propose.ensures.ready; ok = (Replied (reply_by (Ok c.in-Ok-Ok.version)), ruled_as g.F.Front.step g.F.Front.refuses _ _ _ _ (Ok c.in-Ok-Ok.version) c.in-Ok-Ok.field-0-is c.in-Ok-Ok.ensures.ok, nil_first _ _ _ c.requires.none c.in_ok-committed_line-in-Ok-Ok.ensures, refl, refl); err = tt }

pub returns-in-Ok-Err-NoSession : goal.returns-in-Ok-Err-NoSession
returns-in-Ok-Err-NoSession g c =
    let is = c.in-Ok-Err-NoSession.field-0-is ∙ ap Err c.in-Ok-Err-NoSession.field-0-0-is in
    record { ready = c.propose.ensures.ready; ok = (Replied (reply_by (Err denials.NoSession)), ruled_as g.F.Front.step g.F.Front.refuses _ _ _ _ (Err denials.NoSession) is c.in-Ok-Err-NoSession.ensures.ok, refl, refl, refl); err = tt }

pub returns-in_err-denied_line-in-Ok-Err : goal.returns-in_err-denied_line-in-Ok-Err
returns-in_err-denied_line-in-Ok-Err g c =
    record { ready = c.propose.ensures.ready; ok = no_result _ _ c.from_residual-in_err-denied_line-in-Ok-Err.ensures.0; err = lost _ (inr (Replied (reply_by (Err c.in-Ok-Err.denial)), ruled_as g.F.Front.step g.F.Front.refuses _ _ _ _ (Err c.in-Ok-Err.denial) c.in-Ok-Err.field-0-is c.in-Ok-Err.ensures.ok)) }

pub returns-in_ok-denied_line-in-Ok-Err : goal.returns-in_ok-denied_line-in-Ok-Err
returns-in_ok-denied_line-in-Ok-Err g c =
    record { ready = c.propose.ensures.ready; ok = (Replied (reply_by (Err c.in-Ok-Err.denial)), ruled_as g.F.Front.step g.F.Front.refuses _ _ _ _ (Err c.in-Ok-Err.denial) c.in-Ok-Err.field-0-is c.in-Ok-Err.ensures.ok, nil_first _ _ _ c.requires.none c.in_ok-denied_line-in-Ok-Err.ensures, refl, refl); err = tt }

pub returns-in-Err-NoMemory : goal.returns-in-Err-NoMemory
returns-in-Err-NoMemory g c =
    record { ready = c.propose.ensures.ready; ok = tt; err = inl (faulted_as g.F.Front.step g.F.Front.refuses _ _ _ _ faults.NoMemory c.in-Err-NoMemory.field-0-is c.in-Err-NoMemory.ensures.err) }

pub returns-in_err-fault_line-in-Err-OutOfTurn : goal.returns-in_err-fault_line-in-Err-OutOfTurn
returns-in_err-fault_line-in-Err-OutOfTurn g c =
    record { ready = c.propose.ensures.ready; ok = no_result _ _ c.from_residual-in_err-fault_line-in-Err-OutOfTurn.ensures.0; err = lost _ (inr (Faulted faults.OutOfTurn, faulted_as g.F.Front.step g.F.Front.refuses _ _ _ _ faults.OutOfTurn c.in-Err-OutOfTurn.field-0-is c.in-Err-OutOfTurn.ensures.err)) }

pub returns-in_ok-fault_line-in-Err-OutOfTurn : goal.returns-in_ok-fault_line-in-Err-OutOfTurn
returns-in_ok-fault_line-in-Err-OutOfTurn g c =
    record { ready = c.propose.ensures.ready; ok = (Faulted faults.OutOfTurn, faulted_as g.F.Front.step g.F.Front.refuses _ _ _ _ faults.OutOfTurn c.in-Err-OutOfTurn.field-0-is c.in-Err-OutOfTurn.ensures.err, nil_first _ _ _ c.requires.none c.in_ok-fault_line-in-Err-OutOfTurn.ensures, refl, refl); err = tt }

pub returns-in_err-fault_line-in-Err-Full : goal.returns-in_err-fault_line-in-Err-Full
returns-in_err-fault_line-in-Err-Full g c =
    record { ready = c.propose.ensures.ready; ok = no_result _ _ c.from_residual-in_err-fault_line-in-Err-Full.ensures.0; err = lost _ (inr (Faulted faults.Full, faulted_as g.F.Front.step g.F.Front.refuses _ _ _ _ faults.Full c.in-Err-Full.field-0-is c.in-Err-Full.ensures.err)) }

pub returns-in_ok-fault_line-in-Err-Full : goal.returns-in_ok-fault_line-in-Err-Full
returns-in_ok-fault_line-in-Err-Full g c =
    record { ready = c.propose.ensures.ready; ok = (Faulted faults.Full, faulted_as g.F.Front.step g.F.Front.refuses _ _ _ _ faults.Full c.in-Err-Full.field-0-is c.in-Err-Full.ensures.err, nil_first _ _ _ c.requires.none c.in_ok-fault_line-in-Err-Full.ensures, refl, refl); err = tt }
