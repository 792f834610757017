use Rattle.std.proofs.Common.{arith}
use Rattle.solomon_reader.proofs.Parts.{after_ok, fault_given, field_at, fleet_fails, fleet_made, step_bad}
use Rattle.solomon_reader.proofs.reading.fleet_fields.Goals as goal

pub returns-in_err-vehicles : goal.returns-in_err-vehicles
returns-in_err-vehicles c =
    let n = c.args.number in
    let ws = c.args.words.now in
    let bad = c.in_err-vehicles.field-0.0 in
    fault_given _ _ bad _ c.from_residual.ensures (fleet_fails bad n ws c.in-len2.len_at_least c.in-len2.len_below (step_bad bad (field_at n ws 0) _ c.in_err-vehicles.ensures))

pub returns-in_err-capacity : goal.returns-in_err-capacity
returns-in_err-capacity c =
    let n = c.args.number in
    let ws = c.args.words.now in
    let bad = c.in_err-capacity.field-0.0 in
    fault_given _ _ bad _ c.from_residual-in_err-capacity.ensures (fleet_fails bad n ws c.in-len2.len_at_least c.in-len2.len_below (after_ok bad (field_at n ws 0) _ _ c.in_ok-vehicles.ensures (step_bad bad (field_at n ws 1) _ c.in_err-capacity.ensures)))

pub returns : goal.returns
returns c = fleet_made c.args.number _ _ c.args.words.now c.in-len2.len_at_least c.in-len2.len_below c.in_ok-vehicles.ensures c.in_ok-capacity.ensures (omega arith) (omega arith)
