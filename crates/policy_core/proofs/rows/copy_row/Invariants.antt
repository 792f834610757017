use Rattle.std.proofs.Common.{◌≡◌, ◌*◌}
use Rattle.permission_core.specs.Permissions.{row_set}
use Rattle.policy_core.specs.Parts.{members_below}
use Rattle.policy_core.proofs.rows.copy_row.Given as goal

abbrev pub invariant-loop-place : goal.invariant-loop-place
invariant-loop-place l = l.grants ≡ row_set l.fn.grants l.slot l.operation (members_below l.row (64 * l.place))
