use Rattle.std.proofs.Common.{rules, append_assoc}
use Rattle.board_lines.specs.Saying.{after_number, call_said}
use Rattle.board_lines.proofs.Starting.{on_err, cut_more, err_then}
use Rattle.board_lines.proofs.spelling.push_event.Goals as goal

pub returns-in_err-push_number-in-Pin-clause-left : goal.returns-in_err-push_number-in-Pin-clause-left
returns-in_err-push_number-in-Pin-clause-left c = on_err _ (cut_more _ _ (after_number (call_said c.args.call.now)) _ _ c.in_err-push_number-in-Pin.ensures.left (rw c.in-Pin.is (search rules)))

pub returns-in_ok-push_number-in-Pin-clause-left : goal.returns-in_ok-push_number-in-Pin-clause-left
returns-in_ok-push_number-in-Pin-clause-left c = err_then _ _ _ _ _ _ _ c.in_ok-push_number-in-Pin.ensures.ok c.push_numbers.ensures.left (search (rules, append_assoc))

pub returns-in_err-push_number-in-Unpin-clause-left : goal.returns-in_err-push_number-in-Unpin-clause-left
returns-in_err-push_number-in-Unpin-clause-left c = on_err _ (cut_more _ _ (after_number (call_said c.args.call.now)) _ _ c.in_err-push_number-in-Unpin.ensures.left (rw c.in-Unpin.is (search rules)))

pub returns-in_ok-push_number-in-Unpin-clause-left : goal.returns-in_ok-push_number-in-Unpin-clause-left
returns-in_ok-push_number-in-Unpin-clause-left c = err_then _ _ _ _ _ _ _ c.in_ok-push_number-in-Unpin.ensures.ok c.push_numbers-in-Unpin.ensures.left (search (rules, append_assoc))

pub returns-in_err-push_number-in-Freeze-clause-left : goal.returns-in_err-push_number-in-Freeze-clause-left
returns-in_err-push_number-in-Freeze-clause-left c = on_err _ (cut_more _ _ (after_number (call_said c.args.call.now)) _ _ c.in_err-push_number-in-Freeze.ensures.left (rw c.in-Freeze.is (search rules)))

pub returns-in_ok-push_number-in-Freeze-clause-left : goal.returns-in_ok-push_number-in-Freeze-clause-left
returns-in_ok-push_number-in-Freeze-clause-left c = err_then _ _ _ _ _ _ _ c.in_ok-push_number-in-Freeze.ensures.ok c.push_numbers-in-Freeze.ensures.left (search (rules, append_assoc))

pub returns-in_err-push_number-in-Thaw-clause-left : goal.returns-in_err-push_number-in-Thaw-clause-left
returns-in_err-push_number-in-Thaw-clause-left c = on_err _ (cut_more _ _ (after_number (call_said c.args.call.now)) _ _ c.in_err-push_number-in-Thaw.ensures.left (rw c.in-Thaw.is (search rules)))

pub returns-in_ok-push_number-in-Thaw-clause-left : goal.returns-in_ok-push_number-in-Thaw-clause-left
returns-in_ok-push_number-in-Thaw-clause-left c = err_then _ _ _ _ _ _ _ c.in_ok-push_number-in-Thaw.ensures.ok c.push_numbers-in-Thaw.ensures.left (search (rules, append_assoc))

pub returns-in_err-push_number-in-Policy-clause-left : goal.returns-in_err-push_number-in-Policy-clause-left
returns-in_err-push_number-in-Policy-clause-left c = on_err _ (cut_more _ _ (after_number (call_said c.args.call.now)) _ _ c.in_err-push_number-in-Policy.ensures.left (rw c.in-Policy.is (search rules)))

pub returns-in_ok-push_number-in-Policy-clause-left : goal.returns-in_ok-push_number-in-Policy-clause-left
returns-in_ok-push_number-in-Policy-clause-left c = err_then _ _ _ _ _ _ _ c.in_ok-push_number-in-Policy.ensures.ok c.push_policy.ensures.left (search (rules, append_assoc))
