use Rattle.std.proofs.Common.{◌≡◌}
use Rattle.permission_core.specs.Permissions.{row_set}
use Rattle.policy_core.specs.Parts.{members_below}
use Rattle.policy_core.proofs.rows.copy_word.Given as goal

abbrev pub invariant-loop-number : goal.invariant-loop-number
invariant-loop-number l = l.grants ≡ row_set l.initial.grants l.slot l.operation (members_below l.row l.number)
