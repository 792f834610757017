use Rattle.std.proofs.Common.{refl}
use Rattle.board_journal.specs.Kept.{kept_entry}
use Rattle.board_lines.proofs.Journals.{entry_cut, no_line_more}
use Rattle.board_lines.proofs.Starting.{on_err, err_then}
use Rattle.board_lines.proofs.listing.push_audit.Goals as goal

pub returns-in_err-push_entry-clause-left : goal.returns-in_err-push_entry-clause-left
returns-in_err-push_entry-clause-left c =
    let v = c.loop-kept.invariant in
    on_err _ (entry_cut _ _ _ v.grew.0 c.args.journal.now.entries c.loop-kept.kept-iterator c.next.new.self c.loop-kept.n (kept_entry c.in-Some.kept) c.in-Some.ensures.steps v.text v.grew.1 c.in_err-push_entry.ensures.left)

pub returns-clause-left : goal.returns-clause-left
returns-clause-left c =
    let now = no_line_more _ _ c.args.journal.now.entries _ c.loop-kept.n c.in-None.ensures.steps.0 c.loop-kept.invariant.text in
    err_then _ _ _ _ _ _ _ now c.push_end.ensures.left refl
