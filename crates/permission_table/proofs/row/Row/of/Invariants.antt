use Rattle.std.proofs.Common.{◌≤◌, ◌-◌}
use Rattle.permission_table.specs.Unions.{IsUnionBelow}
use Rattle.permission_table.proofs.row.Row.of.Given as goal

abbrev pub invariant-loop-two : goal.invariant-loop-two
invariant-loop-two l = (l.from ≤ 256) × IsUnionBelow l.policy l.roles l.from l.operation l.row

abbrev pub decreases-loop-two : goal.decreases-loop-two
decreases-loop-two l = 256 - l.from
