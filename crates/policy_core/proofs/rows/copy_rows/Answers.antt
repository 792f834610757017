use Rattle.std.proofs.Common.{◌≡◌, ap, ◌∙◌, arith}
use Rattle.permission_core.specs.declared.objects.TheConstants.{OPERATIONS}
use Rattle.permission_core.specs.OperationLaws.{index_of-all}
use Rattle.policy_core.proofs.FillLaws.{filled, filled_all, filled_none, filled_next}
use Rattle.policy_core.proofs.rows.copy_rows.Goals as goal

pub loop-operation-init : goal.loop-operation-init
loop-operation-init c = filled_none c.args.grants.now c.args.from.now c.args.slot

pub loop-operation-preserved : goal.loop-operation-preserved
loop-operation-preserved c =
    c.copy_row.ensures
    ∙ filled_next c.args.grants.now c.loop-operation.grants c.args.from.now c.args.slot c.loop-operation.operation-index _
    (index_of-all c.loop-operation.operation-index _ c.loop-operation-test.true) c.loop-operation.invariant

pub returns : goal.returns
returns c =
    let all : c.loop-operation.operation-index ≡ OPERATIONS = omega (arith, c.loop-operation.auto.operation-index-end, c.loop-operation-test.false) in
    c.loop-operation.invariant ∙ ap (filled c.args.grants.now c.args.from.now c.args.slot) all ∙ filled_all c.args.grants.now c.args.from.now c.args.slot c.requires
