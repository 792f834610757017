use Rattle.std.proofs.Common.{refl}
use Rattle.std.proofs.lemmas.Result.{IfErr-weaker}
use Rattle.dimension_core.specs.Setup.{setting}
use Rattle.board_rules.specs.Good.{state_of}
use Rattle.board_rules.specs.Questions.{review_fault}
use Rattle.board_core.specs.Boards.{history}
use Rattle.board_lines.specs.declared.command.Command.TheVariants as commands
use Rattle.board_text.specs.BoardSteps.{desk_state}
use Rattle.board_text.proofs.Asked.{refused, both}
use Rattle.board_text.proofs.board_front.BoardFrontFront.review.Goals as goal

pub returns-clause-ok : goal.returns-clause-ok
returns-clause-ok g c =
    let board = c.args.self.now.board in
    both _ _ c.review.result (c.review.ensures.asked (setting board.setup.value) board.kept) (c.review.ensures.names (setting board.setup.value) board.kept) (λ names asked are. ((asked, are), refl))

pub returns-clause-err : goal.returns-clause-err
returns-clause-err g c =
    let board = c.args.self.now.board in
    IfErr-weaker c.review.result _ _ (λ fault may. refused (desk_state (history board) c.args.self.now.desk c.args.self.now.turn) (commands.Review c.args.session c.args.which) (review_fault (state_of (history board)) c.args.session c.args.which) fault may refl (λ due e. (e, refl))) (c.review.ensures.fault (setting board.setup.value) board.kept)
