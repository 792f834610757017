use Rattle.std.proofs.Common.{◌≡◌, ◌-◌}
use Rattle.permission_table.specs.Rights.{granted_to}
use Rattle.permission_table.proofs.PlaceLaws.{changed_first}
use Rattle.permission_table.proofs.tables.grant_all.Given as goal

abbrev pub invariant-loop-place : goal.invariant-loop-place
invariant-loop-place l = record {
  rows : l.rows.entries ≡ changed_first (granted_to l.policy l.role l.operation l.words) l.initial.rows.entries l.from;
  room : l.rows.room ≡ l.initial.rows.room;
}

abbrev pub decreases-loop-place : goal.decreases-loop-place
decreases-loop-place l = 9223372036854775808 - l.from
