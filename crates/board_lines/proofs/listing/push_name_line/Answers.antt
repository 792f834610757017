use Rattle.std.proofs.Common.{rules, append_assoc, refl, ◌++◌, ◌∷◌, []}
use Rattle.board_lines.proofs.Starting.{on_err, cut_more, cut_then, err_then}
use Rattle.board_lines.proofs.listing.push_name_line.Goals as goal

pub returns-in_err-push_text-clause-left : goal.returns-in_err-push_text-clause-left
returns-in_err-push_text-clause-left c = on_err _ (cut_more _ _ (c.args.name.now ++ (10 ∷ [])) _ _ c.in_err-push_text.ensures.left (search rules))

pub returns-in_err-push_text-2-clause-left : goal.returns-in_err-push_text-2-clause-left
returns-in_err-push_text-2-clause-left c = on_err _ (cut_then _ _ _ _ _ _ c.in_ok-push_text.ensures.ok (cut_more _ _ (10 ∷ []) _ _ c.in_err-push_text-2.ensures.left refl) (search (rules, append_assoc)))

pub returns-clause-left : goal.returns-clause-left
returns-clause-left c = err_then _ _ _ _ _ _ _ c.in_ok-push_text.ensures.ok (err_then _ _ _ _ _ _ _ c.in_ok-push_text-2.ensures.ok c.push_ascii.ensures.left refl) (search (rules, append_assoc))
