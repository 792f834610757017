use Rattle.std.proofs.Common.{◌≢◌, ◌∙◌, ap, inl, inr, refl, rules}
use Rattle.board_rules.specs.declared.reply.AskFault.TheVariants as asks
use Rattle.board_lines.specs.Listings.{list_text}
use Rattle.line_engine.specs.Answers.{Listed, Refused}
use Rattle.line_engine.proofs.Faulted.{lost, no_result, refused_out, refused_so}
use Rattle.line_engine.proofs.Sending.{nil_first}
use Rattle.line_engine.proofs.answer.list.Goals as goal

pub returns-in_err-push_list-in-Ok : goal.returns-in_err-push_list-in-Ok
returns-in_err-push_list-in-Ok g c =
    record { ready = c.list.ensures.ready; ok = no_result _ _ c.from_residual.ensures.0; err = lost _ (inr (Listed c.in-Ok.rows.items, c.in-Ok.ensures.ok)) }

pub returns-in_ok-push_list-in-Ok : goal.returns-in_ok-push_list-in-Ok
returns-in_ok-push_list-in-Ok g c =
    record { ready = c.list.ensures.ready; ok = (Listed c.in-Ok.rows.items, c.in-Ok.ensures.ok, nil_first _ _ _ c.requires.none c.in_ok-push_list-in-Ok.ensures.ok ∙ ap list_text c.as_slice.ensures.value, refl, refl); err = tt }

pub returns-in-Err-NoMemory : goal.returns-in-Err-NoMemory
returns-in-Err-NoMemory g c =
    record { ready = c.list.ensures.ready; ok = tt; err = inl (refused_out g.F.Front.step g.F.Front.refuses _ _ _ _ c.in-Err-NoMemory.field-0-is c.in-Err-NoMemory.ensures.err) }

pub returns-in_err-refused_line-in-Err : goal.returns-in_err-refused_line-in-Err
returns-in_err-refused_line-in-Err g c =
    let other : c.in-Err.fault ≢ asks.NoMemory = search rules in
    record { ready = c.list.ensures.ready; ok = no_result _ _ c.from_residual-in_err-refused_line-in-Err.ensures.0; err = lost _ (inr (Refused c.in-Err.fault, refused_so g.F.Front.step g.F.Front.refuses _ _ _ _ other c.in-Err.ensures.err)) }

pub returns-in_ok-refused_line-in-Err : goal.returns-in_ok-refused_line-in-Err
returns-in_ok-refused_line-in-Err g c =
    let other : c.in-Err.fault ≢ asks.NoMemory = search rules in
    record { ready = c.list.ensures.ready; ok = (Refused c.in-Err.fault, refused_so g.F.Front.step g.F.Front.refuses _ _ _ _ other c.in-Err.ensures.err, nil_first _ _ _ c.requires.none c.in_ok-refused_line-in-Err.ensures, refl, refl); err = tt }
