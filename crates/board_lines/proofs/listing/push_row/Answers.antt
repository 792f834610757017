use Rattle.std.proofs.Common.{rules, append_assoc, refl, ◌++◌, ◌∷◌, []}
use Rattle.std.specs.List.{flat_map}
use Rattle.board_lines.specs.Replies.{spaced}
use Rattle.board_lines.proofs.Starting.{on_err, cut_more, cut_then, err_then}
use Rattle.board_lines.proofs.listing.push_row.Goals as goal

pub returns-in_err-push_text-clause-left : goal.returns-in_err-push_text-clause-left
returns-in_err-push_text-clause-left c = on_err _ (cut_more _ _ (spaced c.args.row.now.vehicle ++ (spaced c.args.row.now.place ++ (spaced c.args.row.now.customer ++ (flat_map spaced c.args.row.now.early ++ (10 ∷ []))))) _ _ c.in_err-push_text.ensures.left (search (rules, append_assoc)))

pub returns-in_err-push_spaced-clause-left : goal.returns-in_err-push_spaced-clause-left
returns-in_err-push_spaced-clause-left c = on_err _ (cut_then _ _ _ _ _ _ c.in_ok-push_text.ensures.ok (cut_more _ _ (spaced c.args.row.now.place ++ (spaced c.args.row.now.customer ++ (flat_map spaced c.args.row.now.early ++ (10 ∷ [])))) _ _ c.in_err-push_spaced.ensures.left refl) (search (rules, append_assoc)))

pub returns-in_err-push_spaced-2-clause-left : goal.returns-in_err-push_spaced-2-clause-left
returns-in_err-push_spaced-2-clause-left c = on_err _ (cut_then _ _ _ _ _ _ c.in_ok-push_text.ensures.ok (cut_then _ _ _ _ _ _ c.in_ok-push_spaced.ensures.ok (cut_more _ _ (spaced c.args.row.now.customer ++ (flat_map spaced c.args.row.now.early ++ (10 ∷ []))) _ _ c.in_err-push_spaced-2.ensures.left refl) refl) (search (rules, append_assoc)))

pub returns-in_err-push_spaced-3-clause-left : goal.returns-in_err-push_spaced-3-clause-left
returns-in_err-push_spaced-3-clause-left c = on_err _ (cut_then _ _ _ _ _ _ c.in_ok-push_text.ensures.ok (cut_then _ _ _ _ _ _ c.in_ok-push_spaced.ensures.ok (cut_then _ _ _ _ _ _ c.in_ok-push_spaced-2.ensures.ok (cut_more _ _ (flat_map spaced c.args.row.now.early ++ (10 ∷ [])) _ _ c.in_err-push_spaced-3.ensures.left refl) refl) refl) (search (rules, append_assoc)))

pub returns-in_err-push_early-clause-left : goal.returns-in_err-push_early-clause-left
returns-in_err-push_early-clause-left c = on_err _ (cut_then _ _ _ _ _ _ c.in_ok-push_text.ensures.ok (cut_then _ _ _ _ _ _ c.in_ok-push_spaced.ensures.ok (cut_then _ _ _ _ _ _ c.in_ok-push_spaced-2.ensures.ok (cut_then _ _ _ _ _ _ c.in_ok-push_spaced-3.ensures.ok (cut_more _ _ (10 ∷ []) _ _ c.in_err-push_early.ensures.left refl) refl) refl) refl) (search (rules, append_assoc)))

pub returns-clause-left : goal.returns-clause-left
returns-clause-left c = err_then _ _ _ _ _ _ _ c.in_ok-push_text.ensures.ok (err_then _ _ _ _ _ _ _ c.in_ok-push_spaced.ensures.ok (err_then _ _ _ _ _ _ _ c.in_ok-push_spaced-2.ensures.ok (err_then _ _ _ _ _ _ _ c.in_ok-push_spaced-3.ensures.ok (err_then _ _ _ _ _ _ _ c.in_ok-push_early.ensures.ok c.push_ascii.ensures.left refl) refl) refl) refl) (search (rules, append_assoc))
