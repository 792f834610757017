use Rattle.std.proofs.Common.{rules, refl, ◌++◌, ◌∷◌}
use Rattle.board_lines.specs.Arguments.{operation_word}
use Rattle.board_lines.specs.Saying.{behind, range_words}
use Rattle.board_lines.proofs.Starting.{on_err, cut_more, cut_then, err_then}
use Rattle.board_lines.proofs.spelling.push_permission.Goals as goal

pub returns-in_err-push_text-clause-left : goal.returns-in_err-push_text-clause-left
returns-in_err-push_text-clause-left c = on_err _ (cut_more _ _ ((32 ∷ c.args.role.now) ++ ((32 ∷ operation_word c.args.operation) ++ (behind (range_words c.args.range)))) _ _ c.in_err-push_text.ensures.left (search rules))

pub returns-in_err-push_name-clause-left : goal.returns-in_err-push_name-clause-left
returns-in_err-push_name-clause-left c = on_err _ (cut_then _ _ _ _ _ _ c.in_ok-push_text.ensures.ok (cut_more _ _ ((32 ∷ operation_word c.args.operation) ++ (behind (range_words c.args.range))) _ _ c.in_err-push_name.ensures.left refl) (search rules))

pub returns-in_err-push_operation-clause-left : goal.returns-in_err-push_operation-clause-left
returns-in_err-push_operation-clause-left c = on_err _ (cut_then _ _ _ _ _ _ c.in_ok-push_text.ensures.ok (cut_then _ _ _ _ _ _ c.in_ok-push_name.ensures.ok (cut_more _ _ (behind (range_words c.args.range)) _ _ c.in_err-push_operation.ensures.left refl) refl) (search rules))

pub returns-clause-left : goal.returns-clause-left
returns-clause-left c = err_then _ _ _ _ _ _ _ c.in_ok-push_text.ensures.ok (err_then _ _ _ _ _ _ _ c.in_ok-push_name.ensures.ok (err_then _ _ _ _ _ _ _ c.in_ok-push_operation.ensures.ok c.push_range.ensures.left refl) refl) (search rules)
