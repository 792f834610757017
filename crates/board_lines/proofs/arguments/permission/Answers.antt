use Rattle.std.proofs.Common.{◌-◌, length, take, drop, refl, sym}
use Rattle.board_lines.specs.Table.{name, operation, range}
use Rattle.board_lines.proofs.Roles.{lists}
use Rattle.board_lines.proofs.Words.{after_name_bad, after_operation_bad, fault_passed, miscounted_three, name_bad, name_read, operation_bad, operation_read, range_bad, range_read, three_and_more, word_at}
use Rattle.board_lines.proofs.arguments.permission.Goals as goal

pub returns-then-not-is_counted : goal.returns-then-not-is_counted
returns-then-not-is_counted c = miscounted_three (name (operation range)) c.args.arguments.now _ c.in-len3-up.len_at_least refl (sym c.if-not-is_counted.ensures)

pub returns-in_err-role : goal.returns-in_err-role
returns-in_err-role c =
    let ws = c.args.arguments.now in
    fault_passed _ _ _ _ c.from_residual.ensures (three_and_more (name (operation range)) ws _ _ c.in-len3-up.len_at_least refl (sym c.if-not-is_counted.ensures) (name_bad (word_at ws 0) _ _ c.in_err-role.ensures))

pub returns-in_err-operation : goal.returns-in_err-operation
returns-in_err-operation c =
    let ws = c.args.arguments.now in
    let last = operation_bad (word_at ws 1) _ _ c.in_err-operation.ensures in
    fault_passed _ _ _ _ c.from_residual-in_err-operation.ensures (three_and_more (name (operation range)) ws _ _ c.in-len3-up.len_at_least refl (sym c.if-not-is_counted.ensures) (after_name_bad (word_at ws 0) _ _ _ c.in_ok-role.ensures last))

pub returns-in_err-range : goal.returns-in_err-range
returns-in_err-range c =
    let ws = c.args.arguments.now in
    let more = lists (take (length ws - 3) (drop 3 ws)) in
    let last = after_operation_bad (word_at ws 1) _ _ _ c.in_ok-operation.ensures (range_bad (word_at ws 2) more _ c.in_err-range.ensures) in
    fault_passed _ _ _ _ c.from_residual-in_err-range.ensures (three_and_more (name (operation range)) ws _ _ c.in-len3-up.len_at_least refl (sym c.if-not-is_counted.ensures) (after_name_bad (word_at ws 0) _ _ _ c.in_ok-role.ensures last))

pub returns : goal.returns
returns c =
    let ws = c.args.arguments.now in
    let more = lists (take (length ws - 3) (drop 3 ws)) in
    let last = operation_read (word_at ws 1) _ _ _ c.in_ok-operation.ensures (range_read (word_at ws 2) more _ c.in_ok-range.ensures) in
    three_and_more (name (operation range)) ws _ _ c.in-len3-up.len_at_least refl (sym c.if-not-is_counted.ensures) (name_read (word_at ws 0) _ _ _ c.in_ok-role.ensures last)
