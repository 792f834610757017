use Rattle.std.proofs.Common.{◌≡◌}
use Rattle.permission_table.specs.Rights.{refreshed_without}
use Rattle.permission_table.proofs.PlaceLaws.{changed_first}
use Rattle.permission_table.proofs.tables.delete_all.Given as goal

abbrev pub invariant-loop-place : goal.invariant-loop-place
invariant-loop-place l = record {
  rows : l.rows.entries ≡ changed_first (refreshed_without l.policy l.role) l.initial.rows.entries l.place;
  room : l.rows.room ≡ l.initial.rows.room;
}
