use Rattle.line_engine.proofs.Faulted.{lost, no_result}
use Rattle.line_engine.proofs.outbox.Outbox.put.Goals as goal

pub returns-in_err-extend_from_slice-in-Text : goal.returns-in_err-extend_from_slice-in-Text
returns-in_err-extend_from_slice-in-Text c =
    let f = c.from_residual.ensures.0 in
    record { text = no_result _ _ f; seen = no_result _ _ f; lines = no_result _ _ f; refused = no_result _ _ f; err = lost _ c.in_err-extend_from_slice-in-Text.ensures.items }

pub returns-in_err-extend_from_slice-in-Done : goal.returns-in_err-extend_from_slice-in-Done
returns-in_err-extend_from_slice-in-Done c =
    let f = c.from_residual-in_err-extend_from_slice-in-Done.ensures.0 in
    record { text = no_result _ _ f; seen = no_result _ _ f; lines = no_result _ _ f; refused = no_result _ _ f; err = lost _ c.in_err-extend_from_slice-in-Done.ensures.items }

pub returns-in_err-extend_from_slice-in-Checked-true : goal.returns-in_err-extend_from_slice-in-Checked-true
returns-in_err-extend_from_slice-in-Checked-true c =
    let f = c.from_residual-in_err-extend_from_slice-in-Checked-true.ensures.0 in
    record { text = no_result _ _ f; seen = no_result _ _ f; lines = no_result _ _ f; refused = no_result _ _ f; err = lost _ c.in_err-extend_from_slice-in-Checked-true.ensures.items }

pub returns-in_err-extend_from_slice-in-Checked-false : goal.returns-in_err-extend_from_slice-in-Checked-false
returns-in_err-extend_from_slice-in-Checked-false c =
    let f = c.from_residual-in_err-extend_from_slice-in-Checked-false.ensures.0 in
    record { text = no_result _ _ f; seen = no_result _ _ f; lines = no_result _ _ f; refused = no_result _ _ f; err = lost _ c.in_err-extend_from_slice-in-Checked-false.ensures.items }

pub returns-in_err-extend_from_slice-in-NoSession : goal.returns-in_err-extend_from_slice-in-NoSession
returns-in_err-extend_from_slice-in-NoSession c =
    let f = c.from_residual-in_err-extend_from_slice-in-NoSession.ensures.0 in
    record { text = no_result _ _ f; seen = no_result _ _ f; lines = no_result _ _ f; refused = no_result _ _ f; err = lost _ c.in_err-extend_from_slice-in-NoSession.ensures.items }

pub returns-in_err-extend_from_slice-in-Bad-Word : goal.returns-in_err-extend_from_slice-in-Bad-Word
returns-in_err-extend_from_slice-in-Bad-Word c =
    let f = c.from_residual-in_err-extend_from_slice-in-Bad-Word.ensures.0 in
    record { text = no_result _ _ f; seen = no_result _ _ f; lines = no_result _ _ f; refused = no_result _ _ f; err = lost _ c.in_err-extend_from_slice-in-Bad-Word.ensures.items }

pub returns-in_err-extend_from_slice-in-Bad : goal.returns-in_err-extend_from_slice-in-Bad
returns-in_err-extend_from_slice-in-Bad c =
    let f = c.from_residual-in_err-extend_from_slice-in-Bad.ensures.0 in
    record { text = no_result _ _ f; seen = no_result _ _ f; lines = no_result _ _ f; refused = no_result _ _ f; err = lost _ c.in_err-extend_from_slice-in-Bad.ensures.items }

pub returns-in_ok-extend_from_slice-in-Text-clause-lines : goal.returns-in_ok-extend_from_slice-in-Text-clause-lines
returns-in_ok-extend_from_slice-in-Text-clause-lines c = rw c.in-Text.is c.count-in-Text.ensures.lines

pub returns-in_ok-extend_from_slice-in-Text-clause-refused : goal.returns-in_ok-extend_from_slice-in-Text-clause-refused
returns-in_ok-extend_from_slice-in-Text-clause-refused c = rw c.in-Text.is c.count-in-Text.ensures.refused

pub returns-in_ok-extend_from_slice-in-Done-clause-lines : goal.returns-in_ok-extend_from_slice-in-Done-clause-lines
returns-in_ok-extend_from_slice-in-Done-clause-lines c = rw c.in-Done.is c.count-in-Done.ensures.lines

pub returns-in_ok-extend_from_slice-in-Done-clause-refused : goal.returns-in_ok-extend_from_slice-in-Done-clause-refused
returns-in_ok-extend_from_slice-in-Done-clause-refused c = rw c.in-Done.is c.count-in-Done.ensures.refused

pub returns-in_ok-extend_from_slice-in-NoSession-clause-lines : goal.returns-in_ok-extend_from_slice-in-NoSession-clause-lines
returns-in_ok-extend_from_slice-in-NoSession-clause-lines c = rw c.in-NoSession.is c.count-in-NoSession.ensures.lines

pub returns-in_ok-extend_from_slice-in-NoSession-clause-refused : goal.returns-in_ok-extend_from_slice-in-NoSession-clause-refused
returns-in_ok-extend_from_slice-in-NoSession-clause-refused c = rw c.in-NoSession.is c.count-in-NoSession.ensures.refused

pub returns-in_ok-extend_from_slice-in-Bad-Word-clause-lines : goal.returns-in_ok-extend_from_slice-in-Bad-Word-clause-lines
returns-in_ok-extend_from_slice-in-Bad-Word-clause-lines c = rw c.in-Bad-Word.is c.count-in-Bad-Word.ensures.lines

pub returns-in_ok-extend_from_slice-in-Bad-Word-clause-refused : goal.returns-in_ok-extend_from_slice-in-Bad-Word-clause-refused
returns-in_ok-extend_from_slice-in-Bad-Word-clause-refused c = rw c.in-Bad-Word.is c.count-in-Bad-Word.ensures.refused

pub returns-in_ok-extend_from_slice-in-Bad-clause-lines : goal.returns-in_ok-extend_from_slice-in-Bad-clause-lines
returns-in_ok-extend_from_slice-in-Bad-clause-lines c = rw c.in-Bad.is c.count-in-Bad.ensures.lines

pub returns-in_ok-extend_from_slice-in-Bad-clause-refused : goal.returns-in_ok-extend_from_slice-in-Bad-clause-refused
returns-in_ok-extend_from_slice-in-Bad-clause-refused c = rw c.in-Bad.is c.count-in-Bad.ensures.refused
