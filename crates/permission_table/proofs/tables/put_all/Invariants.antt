use Rattle.std.proofs.Common.{◌≡◌, ◌≤◌, ℕ, length}
use Rattle.std.specs.Prelude.{nat_eq, unwrap_or}
use Rattle.std.specs.Map.{lookup}
use Rattle.permission_table.proofs.tables.put_all.Given as goal

abbrev pub invariant-loop-session : goal.invariant-loop-session
invariant-loop-session l = record {
  room : length l.changes.items ≤ l.rows.room;
  found : (q : ℕ) → unwrap_or (lookup (nat_eq q) l.changes.items) (lookup (nat_eq q) l.rows.entries)
      ≡ unwrap_or (lookup (nat_eq q) l.initial.changes.items) (lookup (nat_eq q) l.initial.rows.entries);
}

abbrev pub decreases-loop-session : goal.decreases-loop-session
decreases-loop-session l = length l.changes.items
