use Rattle.std.proofs.Common.{◌≡◌}
use Rattle.policy_core.proofs.FillLaws.{filled}
use Rattle.policy_core.proofs.rows.copy_rows.Given as goal

abbrev pub invariant-loop-operation : goal.invariant-loop-operation
invariant-loop-operation l = l.grants ≡ filled l.fn.grants l.from l.slot l.operation-index
