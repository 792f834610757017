use Rattle.std.proofs.Common.{◌≤◌, ◌≡◌, ◌-◌, length}
use Rattle.std.specs.Prelude.{slice_index}
use Rattle.permission_core.specs.declared.objects.Operation.{Operation}
use Rattle.permission_core.specs.declared.objects.TheConstants.{OPERATIONS}
use Rattle.permission_core.specs.Objects.{index_of}
use Rattle.permission_table.specs.Unions.{IsUnionBelow}
use Rattle.permission_table.proofs.row.SessionRows.of.Given as goal

abbrev pub invariant-loop-two : goal.invariant-loop-two
invariant-loop-two l = record {
  small : l.from ≤ 256;
  whole : length l.rows.value ≡ OPERATIONS;
  rows : (operation : Operation) → IsUnionBelow l.policy l.roles l.from operation (slice_index l.rows.value (index_of operation));
}

abbrev pub decreases-loop-two : goal.decreases-loop-two
decreases-loop-two l = 256 - l.from
