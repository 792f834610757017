use Rattle.std.proofs.Common.{◌-◌, length, take, drop, refl, sym}
use Rattle.board_lines.specs.Table.{object, operation}
use Rattle.board_lines.proofs.Roles.{lists}
use Rattle.board_lines.proofs.Words.{after_operation_bad, fault_passed, miscounted_two, object_bad, object_read, operation_bad, operation_read, two_and_more, word_at}
use Rattle.board_lines.proofs.arguments.access.Goals as goal

pub returns-then-not-is_counted : goal.returns-then-not-is_counted
returns-then-not-is_counted c = miscounted_two (operation object) c.args.arguments.now _ c.in-len2-up.len_at_least refl (sym c.if-not-is_counted.ensures)

pub returns-in_err-operation : goal.returns-in_err-operation
returns-in_err-operation c =
    let ws = c.args.arguments.now in
    fault_passed _ _ _ _ c.from_residual.ensures (two_and_more (operation object) ws _ _ c.in-len2-up.len_at_least refl (sym c.if-not-is_counted.ensures) (operation_bad (word_at ws 0) _ _ c.in_err-operation.ensures))

pub returns-in_err-object : goal.returns-in_err-object
returns-in_err-object c =
    let ws = c.args.arguments.now in
    let more = lists (take (length ws - 2) (drop 2 ws)) in
    let last = object_bad (word_at ws 1) more _ c.in_err-object.ensures in
    fault_passed _ _ _ _ c.from_residual-in_err-object.ensures (two_and_more (operation object) ws _ _ c.in-len2-up.len_at_least refl (sym c.if-not-is_counted.ensures) (after_operation_bad (word_at ws 0) _ _ _ c.in_ok-operation.ensures last))

pub returns : goal.returns
returns c =
    let ws = c.args.arguments.now in
    let more = lists (take (length ws - 2) (drop 2 ws)) in
    let last = object_read (word_at ws 1) more _ c.in_ok-object.ensures in
    two_and_more (operation object) ws _ _ c.in-len2-up.len_at_least refl (sym c.if-not-is_counted.ensures) (operation_read (word_at ws 0) _ _ _ c.in_ok-operation.ensures last)
