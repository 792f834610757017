use Rattle.std.proofs.Common.{arith, refl}
use Rattle.board_lines.specs.Json.{comma_number}
use Rattle.board_lines.proofs.Starting.{on_err, cut_loop}
use Rattle.board_lines.proofs.json.push_commas.Goals as goal

pub returns-in_err-push_comma-clause-left : goal.returns-in_err-push_comma-clause-left
returns-in_err-push_comma-clause-left c = on_err _ (cut_loop comma_number _ _ 0 _ _ _ _ (omega (arith, c.loop-n-test.true)) refl c.loop-n.invariant c.in_err-push_comma.ensures.left)
