use Rattle.solomon_reader.proofs.Parts.{after_ok, fault_given, field_at, row_fails, row_made, step_bad}
use Rattle.solomon_reader.proofs.reading.row_fields.Goals as goal

pub returns-in_err-place : goal.returns-in_err-place
returns-in_err-place c =
    let n = c.args.number in
    let ws = c.args.words.now in
    let bad = c.in_err-place.field-0.0 in
    fault_given _ _ bad _ c.from_residual.ensures (row_fails bad n ws c.in-len7.len_at_least c.in-len7.len_below (step_bad bad (field_at n ws 0) _ c.in_err-place.ensures))

pub returns-in_err-number_at : goal.returns-in_err-number_at
returns-in_err-number_at c =
    let n = c.args.number in
    let ws = c.args.words.now in
    let bad = c.in_err-number_at.field-0.0 in
    fault_given _ _ bad _ c.from_residual-in_err-number_at.ensures (row_fails bad n ws c.in-len7.len_at_least c.in-len7.len_below (after_ok bad (field_at n ws 0) _ _ c.in_ok-place.ensures (step_bad bad (field_at n ws 1) _ c.in_err-number_at.ensures)))

pub returns-in_err-number_at-2 : goal.returns-in_err-number_at-2
returns-in_err-number_at-2 c =
    let n = c.args.number in
    let ws = c.args.words.now in
    let bad = c.in_err-number_at-2.field-0.0 in
    fault_given _ _ bad _ c.from_residual-in_err-number_at-2.ensures (row_fails bad n ws c.in-len7.len_at_least c.in-len7.len_below (after_ok bad (field_at n ws 0) _ _ c.in_ok-place.ensures (after_ok bad (field_at n ws 1) _ _ c.in_ok-number_at.ensures (step_bad bad (field_at n ws 2) _ c.in_err-number_at-2.ensures))))

pub returns-in_err-number_at-3 : goal.returns-in_err-number_at-3
returns-in_err-number_at-3 c =
    let n = c.args.number in
    let ws = c.args.words.now in
    let bad = c.in_err-number_at-3.field-0.0 in
    fault_given _ _ bad _ c.from_residual-in_err-number_at-3.ensures (row_fails bad n ws c.in-len7.len_at_least c.in-len7.len_below (after_ok bad (field_at n ws 0) _ _ c.in_ok-place.ensures (after_ok bad (field_at n ws 1) _ _ c.in_ok-number_at.ensures (after_ok bad (field_at n ws 2) _ _ c.in_ok-number_at-2.ensures (step_bad bad (field_at n ws 3) _ c.in_err-number_at-3.ensures)))))

pub returns-in_err-number_at-4 : goal.returns-in_err-number_at-4
returns-in_err-number_at-4 c =
    let n = c.args.number in
    let ws = c.args.words.now in
    let bad = c.in_err-number_at-4.field-0.0 in
    fault_given _ _ bad _ c.from_residual-in_err-number_at-4.ensures (row_fails bad n ws c.in-len7.len_at_least c.in-len7.len_below (after_ok bad (field_at n ws 0) _ _ c.in_ok-place.ensures (after_ok bad (field_at n ws 1) _ _ c.in_ok-number_at.ensures (after_ok bad (field_at n ws 2) _ _ c.in_ok-number_at-2.ensures (after_ok bad (field_at n ws 3) _ _ c.in_ok-number_at-3.ensures (step_bad bad (field_at n ws 4) _ c.in_err-number_at-4.ensures))))))

pub returns-in_err-number_at-5 : goal.returns-in_err-number_at-5
returns-in_err-number_at-5 c =
    let n = c.args.number in
    let ws = c.args.words.now in
    let bad = c.in_err-number_at-5.field-0.0 in
    fault_given _ _ bad _ c.from_residual-in_err-number_at-5.ensures (row_fails bad n ws c.in-len7.len_at_least c.in-len7.len_below (after_ok bad (field_at n ws 0) _ _ c.in_ok-place.ensures (after_ok bad (field_at n ws 1) _ _ c.in_ok-number_at.ensures (after_ok bad (field_at n ws 2) _ _ c.in_ok-number_at-2.ensures (after_ok bad (field_at n ws 3) _ _ c.in_ok-number_at-3.ensures (after_ok bad (field_at n ws 4) _ _ c.in_ok-number_at-4.ensures (step_bad bad (field_at n ws 5) _ c.in_err-number_at-5.ensures)))))))

pub returns-in_err-number_at-6 : goal.returns-in_err-number_at-6
returns-in_err-number_at-6 c =
    let n = c.args.number in
    let ws = c.args.words.now in
    let bad = c.in_err-number_at-6.field-0.0 in
    fault_given _ _ bad _ c.from_residual-in_err-number_at-6.ensures (row_fails bad n ws c.in-len7.len_at_least c.in-len7.len_below (after_ok bad (field_at n ws 0) _ _ c.in_ok-place.ensures (after_ok bad (field_at n ws 1) _ _ c.in_ok-number_at.ensures (after_ok bad (field_at n ws 2) _ _ c.in_ok-number_at-2.ensures (after_ok bad (field_at n ws 3) _ _ c.in_ok-number_at-3.ensures (after_ok bad (field_at n ws 4) _ _ c.in_ok-number_at-4.ensures (after_ok bad (field_at n ws 5) _ _ c.in_ok-number_at-5.ensures (step_bad bad (field_at n ws 6) _ c.in_err-number_at-6.ensures))))))))

pub returns : goal.returns
returns c = row_made c.args.number c.args.words.now _ _ _ _ _ _ _ c.in-len7.len_at_least c.in-len7.len_below c.in_ok-place.ensures c.in_ok-number_at.ensures c.in_ok-number_at-2.ensures c.in_ok-number_at-3.ensures c.in_ok-number_at-4.ensures c.in_ok-number_at-5.ensures c.in_ok-number_at-6.ensures
