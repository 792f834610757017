use Rattle.std.proofs.Common.{rules, ◌∷◌, []}
use Rattle.board_lines.specs.Listings.{entry_line}
use Rattle.board_lines.proofs.Starting.{on_err, cut_more, err_then}
use Rattle.board_lines.proofs.listing.push_entry.Goals as goal

pub returns-in_err-push_kept-clause-left : goal.returns-in_err-push_kept-clause-left
unfolding entry_line
returns-in_err-push_kept-clause-left c = on_err _ (cut_more _ _ (10 ∷ []) _ _ c.in_err-push_kept.ensures.left (search rules))

pub returns-clause-left : goal.returns-clause-left
unfolding entry_line
returns-clause-left c = err_then _ _ _ _ _ _ _ c.in_ok-push_kept.ensures.ok c.push_ascii.ensures.left (search rules)
