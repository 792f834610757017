use Rattle.std.proofs.Common.{arith}
use Rattle.permission_table.proofs.RightsLaws.{made_row}
use Rattle.permission_table.proofs.UnionLaws.{union_none, union_two, union_all}
use Rattle.permission_table.proofs.row.Row.of.Goals as goal

pub loop-two-init : goal.loop-two-init
loop-two-init c = (omega arith, union_none c.args.policy.now c.args.roles c.args.operation c.new-row.result c.new-row.ensures)

pub loop-two-preserved : goal.loop-two-preserved
loop-two-preserved c =
    let found = c.in-Some.ensures in (
      omega (arith, c.is_small.ensures c.in-Some.two.1 found.members.1),
      union_two c.args.policy.now c.args.roles c.args.operation c.loop-two.row c.loop-two.from c.in-Some.two.0 c.in-Some.two.1 c.join.new.self found.order.1 found.members found.between found.order.0 c.loop-two.invariant.1 c.join.ensures,
    )

pub returns : goal.returns
returns c =
    made_row c.args.policy.now c.args.roles c.args.operation c.loop-two.row c.is_small.ensures
    (union_all c.args.policy.now c.args.roles c.args.operation c.loop-two.row c.loop-two.from c.in_default.ensures.none c.loop-two.invariant.1)
