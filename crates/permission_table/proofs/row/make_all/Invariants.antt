use Rattle.permission_table.specs.Rights.{row_made}
use Rattle.permission_table.proofs.EachLaws.{AreChanged}
use Rattle.permission_table.proofs.row.make_all.Given as goal

abbrev pub invariant-loop-operation : goal.invariant-loop-operation
invariant-loop-operation l = AreChanged (λ operation row. row_made l.policy l.roles operation) l.fn.rows l.rows l.operation-index
