use Rattle.std.proofs.Common.{rules, refl, codes, ◌++◌}
use Rattle.board_lines.specs.Replies.{reply_text}
use Rattle.board_lines.specs.Saying.{event_text}
use Rattle.board_rules.specs.declared.call.Call.TheVariants.{Propose}
use Rattle.board_journal.specs.Records.{reply_of}
use Rattle.board_lines.proofs.Starting.{on_err, cut_more, cut_then, err_then}
use Rattle.board_lines.proofs.listing.push_verdict_on.Goals as goal

pub returns-in_err-push_text-clause-left : goal.returns-in_err-push_text-clause-left
returns-in_err-push_text-clause-left c = λ desk turn. on_err _ (cut_more _ _ (event_text (Propose c.args.session c.args.base c.args.mv.now) ++ (codes " | " ++ (reply_text (reply_of c.args.answer)))) _ _ c.in_err-push_text.ensures.left (search rules))

pub returns-in_err-push_proposal-clause-left : goal.returns-in_err-push_proposal-clause-left
returns-in_err-push_proposal-clause-left c = λ desk turn. on_err _ (cut_then _ _ _ _ _ _ c.in_ok-push_text.ensures.ok (cut_more _ _ (codes " | " ++ (reply_text (reply_of c.args.answer))) _ _ c.in_err-push_proposal.ensures.left refl) (search rules))

pub returns-in_err-push_text-2-clause-left : goal.returns-in_err-push_text-2-clause-left
returns-in_err-push_text-2-clause-left c = λ desk turn. on_err _ (cut_then _ _ _ _ _ _ c.in_ok-push_text.ensures.ok (cut_then _ _ _ _ _ _ c.in_ok-push_proposal.ensures.ok (cut_more _ _ (reply_text (reply_of c.args.answer)) _ _ c.in_err-push_text-2.ensures.left refl) refl) (search rules))

pub returns-clause-left : goal.returns-clause-left
returns-clause-left c = λ desk turn. err_then _ _ _ _ _ _ _ c.in_ok-push_text.ensures.ok (err_then _ _ _ _ _ _ _ c.in_ok-push_proposal.ensures.ok (err_then _ _ _ _ _ _ _ c.in_ok-push_text-2.ensures.ok c.push_verdict.ensures.left refl) refl) (search rules)
