use Rattle.std.proofs.Common.{rules, append_assoc, refl, codes, ◌++◌}
use Rattle.board_lines.specs.Replies.{reply_text}
use Rattle.board_lines.specs.Saying.{event_text}
use Rattle.board_rules.specs.Holds.{call_of, reply_to}
use Rattle.board_lines.proofs.Starting.{on_err, cut_more, cut_then, err_then}
use Rattle.board_lines.proofs.listing.push_ruling_on.Goals as goal

pub returns-in_err-push_text-clause-left : goal.returns-in_err-push_text-clause-left
returns-in_err-push_text-clause-left c = λ desk turn. on_err _ (cut_more _ _ (event_text (call_of c.args.hold) ++ (codes " | " ++ (reply_text (reply_to c.args.ruling)))) _ _ c.in_err-push_text.ensures.left (search rules))

pub returns-in_err-push_event-clause-left : goal.returns-in_err-push_event-clause-left
returns-in_err-push_event-clause-left c = λ desk turn. on_err _ (cut_then _ _ _ _ _ _ c.in_ok-push_text.ensures.ok (cut_more _ _ (codes " | " ++ (reply_text (reply_to c.args.ruling))) _ _ c.in_err-push_event.ensures.left refl) (search (rules, append_assoc)))

pub returns-in_err-push_text-2-clause-left : goal.returns-in_err-push_text-2-clause-left
returns-in_err-push_text-2-clause-left c = λ desk turn. on_err _ (cut_then _ _ _ _ _ _ c.in_ok-push_text.ensures.ok (cut_then _ _ _ _ _ _ c.in_ok-push_event.ensures.ok (cut_more _ _ (reply_text (reply_to c.args.ruling)) _ _ c.in_err-push_text-2.ensures.left refl) refl) (search (rules, append_assoc)))

pub returns-clause-left : goal.returns-clause-left
returns-clause-left c = λ desk turn. err_then _ _ _ _ _ _ _ c.in_ok-push_text.ensures.ok (err_then _ _ _ _ _ _ _ c.in_ok-push_event.ensures.ok (err_then _ _ _ _ _ _ _ c.in_ok-push_text-2.ensures.ok c.push_reply.ensures.left refl) refl) (search (rules, append_assoc))
