use Rattle.std.proofs.Common.{◌≡◌, ◌*◌, length}
use Rattle.limits.specs.declared.TheConstants.{MOST_ROLES}
use Rattle.permission_core.specs.declared.objects.TheConstants.{OPERATIONS}
use Rattle.permission_core.specs.Permissions.{cleared_rows}
use Rattle.permission_core.proofs.permissions.empty.Given as goal

abbrev pub invariant-loop-operation : goal.invariant-loop-operation
invariant-loop-operation l = (length l.rows.items ≡ OPERATIONS * MOST_ROLES) × (l.rows.items ≡ cleared_rows l.initial.rows.items l.slot l.operation)
