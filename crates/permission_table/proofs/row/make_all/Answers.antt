use Rattle.permission_core.specs.OperationLaws.{index_of-all}
use Rattle.permission_table.specs.Rights.{row_made}
use Rattle.permission_table.proofs.EachLaws.{none_changed, next_changed, each_changed, all_rows_are}
use Rattle.permission_table.proofs.row.make_all.Goals as goal

pub loop-operation-init : goal.loop-operation-init
loop-operation-init c = none_changed _ c.args.rows.now c.requires

pub loop-operation-preserved : goal.loop-operation-preserved
loop-operation-preserved c =
    let i = c.loop-operation.operation-index in
    next_changed _ c.args.rows.now c.loop-operation.rows i c.loop-operation.invariant c.index.result _ c.index.ensures.value (index_of-all i _ c.loop-operation-test.true)
    c.of.result c.of.ensures

pub returns : goal.returns
returns c =
    all_rows_are (row_made c.args.policy.now c.args.roles) c.loop-operation.rows c.loop-operation.invariant.whole
    (each_changed _ c.args.rows.now c.loop-operation.rows c.loop-operation.operation-index c.loop-operation-test.false c.loop-operation.invariant)
