use Rattle.std.proofs.Common.{rules, append_assoc, refl, ◌++◌}
use Rattle.std.specs.Fmt.{decimal}
use Rattle.board_lines.specs.Replies.{spaced}
use Rattle.board_lines.proofs.Starting.{on_err, cut_more, cut_then, err_then}
use Rattle.board_lines.proofs.listing.push_tag.Goals as goal

pub returns-in_err-push_text-clause-left : goal.returns-in_err-push_text-clause-left
returns-in_err-push_text-clause-left c = on_err _ (cut_more _ _ (decimal c.args.n ++ (spaced c.args.desk ++ (spaced c.args.turn))) _ _ c.in_err-push_text.ensures.left (search rules))

pub returns-in_err-push_number-clause-left : goal.returns-in_err-push_number-clause-left
returns-in_err-push_number-clause-left c = on_err _ (cut_then _ _ _ _ _ _ c.in_ok-push_text.ensures.ok (cut_more _ _ (spaced c.args.desk ++ (spaced c.args.turn)) _ _ c.in_err-push_number.ensures.left refl) (search rules))

pub returns-in_err-push_spaced-clause-left : goal.returns-in_err-push_spaced-clause-left
returns-in_err-push_spaced-clause-left c = on_err _ (cut_then _ _ _ _ _ _ c.in_ok-push_text.ensures.ok (cut_then _ _ _ _ _ _ c.in_ok-push_number.ensures.ok (cut_more _ _ (spaced c.args.turn) _ _ c.in_err-push_spaced.ensures.left refl) refl) (search (rules, append_assoc)))

pub returns-clause-left : goal.returns-clause-left
returns-clause-left c = err_then _ _ _ _ _ _ _ c.in_ok-push_text.ensures.ok (err_then _ _ _ _ _ _ _ c.in_ok-push_number.ensures.ok (err_then _ _ _ _ _ _ _ c.in_ok-push_spaced.ensures.ok c.push_spaced-2.ensures.left refl) refl) (search (rules, append_assoc))
