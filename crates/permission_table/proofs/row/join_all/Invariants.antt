use Rattle.std.specs.Prelude.{bit_or}
use Rattle.policy_core.specs.Access.{row_of}
use Rattle.permission_table.proofs.EachLaws.{AreChanged}
use Rattle.permission_table.proofs.row.join_all.Given as goal

abbrev pub invariant-loop-operation : goal.invariant-loop-operation
invariant-loop-operation l =
    AreChanged (λ operation row. bit_or (bit_or row (row_of l.policy l.two.0 operation)) (row_of l.policy l.two.1 operation)) l.fn.rows l.rows l.operation-index
