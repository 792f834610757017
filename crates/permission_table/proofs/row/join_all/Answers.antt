use Rattle.std.proofs.Common.{◌≡◌, get_or, sym, ap, ◌∙◌}
use Rattle.std.specs.Prelude.{bit_or}
use Rattle.std.proofs.lemmas.List.{get_or_read_under}
use Rattle.permission_core.specs.declared.objects.Operation.{Operation}
use Rattle.permission_core.specs.declared.objects.Operation.TheVariants.{View}
use Rattle.permission_core.specs.declared.objects.TheConstants.{OPERATIONS}
use Rattle.permission_core.specs.declared.objects.TheConstants.Operation.{ALL}
use Rattle.permission_core.specs.OperationLaws.{index_of-all}
use Rattle.policy_core.specs.Access.{row_of}
use Rattle.permission_table.proofs.EachLaws.{row_for, none_changed, next_changed, each_changed}
use Rattle.permission_table.proofs.row.join_all.Goals as goal

pub loop-operation-init : goal.loop-operation-init
loop-operation-init c = none_changed _ c.args.rows.now c.requires.whole

pub loop-operation-preserved : goal.loop-operation-preserved
loop-operation-preserved c =
    let rows = c.loop-operation.rows in
    let i = c.loop-operation.operation-index in
    let operation : Operation = get_or ALL i View in
    let read : c.index-rows-index.result ≡ row_for rows operation =
    get_or_read_under rows c.index.result OPERATIONS c.index-rows-index.result 0 c.index-rows-index.is c.index.ensures.small (sym c.loop-operation.invariant.whole)
    ∙ ap (λ k. get_or rows k 0) c.index.ensures.value in
    next_changed _ c.args.rows.now rows i c.loop-operation.invariant c.index.result operation c.index.ensures.value (index_of-all i View c.loop-operation-test.true)
    c.join.new.self (c.join.ensures ∙ ap (λ row. bit_or (bit_or row (row_of c.args.policy.now c.args.two.0 operation)) (row_of c.args.policy.now c.args.two.1 operation)) (sym c.index-rows-index.is ∙ read))

pub returns : goal.returns
returns c = record {
  whole = c.loop-operation.invariant.whole;
  joined = each_changed _ c.args.rows.now c.loop-operation.rows c.loop-operation.operation-index c.loop-operation-test.false c.loop-operation.invariant;
}
