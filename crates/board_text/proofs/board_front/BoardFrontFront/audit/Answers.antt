use Rattle.std.proofs.Common.{refl, sym, ap, ◌∙◌, List, ◌++◌, string_bytes}
use Rattle.std.specs.Result.{result_err}
use Rattle.dimension_core.specs.Setup.{setting}
use Rattle.board_rules.specs.declared.call.Entry.{Entry}
use Rattle.board_rules.specs.Good.{state_of}
use Rattle.board_rules.specs.Questions.{audit_fault}
use Rattle.board_core.specs.Boards.{history}
use Rattle.board_lines.specs.declared.command.Command.TheVariants as commands
use Rattle.board_lines.specs.Listings.{audit_text}
use Rattle.board_text.specs.BoardSteps.{desk_state}
use Rattle.board_text.proofs.Asked.{refused, due_may, audited}
use Rattle.board_text.proofs.board_front.BoardFrontFront.audit.Goals as goal

pub returns-in-Ok-clause-ok : goal.returns-in-Ok-clause-ok
returns-in-Ok-clause-ok g c =
    let board = c.args.self.now.board in
    let asked = sym (c.audit.ensures.asked (setting board.setup.value) board.kept) ∙ ap result_err c.in-Ok.is in
    let same = c.in-Ok.ensures.entries in
    audited _ c.args.session board.core.journal _ _ _ c.append_journal.result asked refl (ap (λ (es : List Entry). string_bytes c.args.text.now ++ audit_text es) same) c.append_journal.ensures.ok

pub returns-in-Err-clause-err : goal.returns-in-Err-clause-err
returns-in-Err-clause-err g c =
    let board = c.args.self.now.board in
    let due = sym (c.audit.ensures.asked (setting board.setup.value) board.kept) ∙ ap result_err c.in-Err.is in
    refused (desk_state (history board) c.args.self.now.desk c.args.self.now.turn) (commands.Audit c.args.session) (audit_fault (state_of (history board)) c.args.session) _ (due_may _ _ due) refl (λ fault e. (e, refl))
