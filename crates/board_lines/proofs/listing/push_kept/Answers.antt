use Rattle.board_lines.proofs.Journals.{tag_then}
use Rattle.std.proofs.Common.{refl}
use Rattle.board_lines.specs.Listings.{answer_text}
use Rattle.board_journal.specs.Kept.{kept_entry}
use Rattle.board_lines.proofs.Starting.{on_err, cut_more, err_then}
use Rattle.board_lines.proofs.listing.push_kept.Goals as goal

pub returns-in_ok-push_tag-in-Proposal-clause-ok : goal.returns-in_ok-push_tag-in-Proposal-clause-ok
returns-in_ok-push_tag-in-Proposal-clause-ok c =
    rw c.in-Proposal.is (tag_then _ _ _ _ _ _ c.in_ok-push_tag-in-Proposal.ensures.ok (c.push_verdict_on.ensures.ok c.in-Proposal.desk c.in-Proposal.turn))

pub returns-in_ok-push_tag-in-Hold-clause-ok : goal.returns-in_ok-push_tag-in-Hold-clause-ok
returns-in_ok-push_tag-in-Hold-clause-ok c =
    rw c.in-Hold.is (tag_then _ _ _ _ _ _ c.in_ok-push_tag-in-Hold.ensures.ok (c.push_ruling_on.ensures.ok c.in-Hold.desk c.in-Hold.turn))

pub returns-in_err-push_tag-in-Proposal-clause-left : goal.returns-in_err-push_tag-in-Proposal-clause-left
returns-in_err-push_tag-in-Proposal-clause-left c = on_err _ (cut_more _ _ (answer_text (kept_entry c.args.kept)) _ _ c.in_err-push_tag-in-Proposal.ensures.left (rw c.in-Proposal.is refl))

pub returns-in_ok-push_tag-in-Proposal-clause-left : goal.returns-in_ok-push_tag-in-Proposal-clause-left
returns-in_ok-push_tag-in-Proposal-clause-left c = rw c.in-Proposal.is (err_then _ _ _ _ _ _ _ c.in_ok-push_tag-in-Proposal.ensures.ok (c.push_verdict_on.ensures.left c.in-Proposal.desk c.in-Proposal.turn) refl)

pub returns-in_err-push_tag-in-Hold-clause-left : goal.returns-in_err-push_tag-in-Hold-clause-left
returns-in_err-push_tag-in-Hold-clause-left c = on_err _ (cut_more _ _ (answer_text (kept_entry c.args.kept)) _ _ c.in_err-push_tag-in-Hold.ensures.left (rw c.in-Hold.is refl))

pub returns-in_ok-push_tag-in-Hold-clause-left : goal.returns-in_ok-push_tag-in-Hold-clause-left
returns-in_ok-push_tag-in-Hold-clause-left c = rw c.in-Hold.is (err_then _ _ _ _ _ _ _ c.in_ok-push_tag-in-Hold.ensures.ok (c.push_ruling_on.ensures.left c.in-Hold.desk c.in-Hold.turn) refl)

pub returns-in_err-push_tag-in-Whole-clause-left : goal.returns-in_err-push_tag-in-Whole-clause-left
returns-in_err-push_tag-in-Whole-clause-left c = on_err _ (cut_more _ _ (answer_text (kept_entry c.args.kept)) _ _ c.in_err-push_tag-in-Whole.ensures.left (rw c.in-Whole.is refl))

pub returns-in_ok-push_tag-in-Whole-clause-left : goal.returns-in_ok-push_tag-in-Whole-clause-left
returns-in_ok-push_tag-in-Whole-clause-left c = rw c.in-Whole.is (err_then _ _ _ _ _ _ _ c.in_ok-push_tag-in-Whole.ensures.ok c.push_answer.ensures.left refl)
