use Rattle.std.proofs.Common.{arith, ◌∷◌}
use Rattle.board_lines.proofs.Starting.{on_err, cut_loop}
use Rattle.board_lines.proofs.spelling.push_names.Goals as goal

pub returns-in_err-push_name-clause-left : goal.returns-in_err-push_name-clause-left
returns-in_err-push_name-clause-left c = on_err _ (cut_loop (λ w. 32 ∷ w) _ _ _ _ _ _ _ (omega (arith, c.loop-name-test.true)) c.name-item.is c.loop-name.invariant c.in_err-push_name.ensures.left)
