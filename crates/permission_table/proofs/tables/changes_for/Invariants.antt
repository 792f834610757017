use Rattle.std.proofs.Common.{◌≡◌, ℕ, length, take}
use Rattle.std.specs.Prelude.{nat_eq, is_some}
use Rattle.std.specs.Map.{lookup}
use Rattle.permission_table.specs.Tables.{is_among}
use Rattle.permission_table.specs.Compiled.{AreChangesOf}
use Rattle.permission_table.proofs.tables.changes_for.Given as goal

abbrev pub invariant-loop-session : goal.invariant-loop-session
invariant-loop-session l = record {
  few : length l.changes.items ≡ l.session-index;
  sessions : (q : ℕ) → is_some (lookup (nat_eq q) l.changes.items) ≡ is_among (take l.session-index l.sessions) q;
  rows : AreChangesOf l.policy l.changes.items;
}
