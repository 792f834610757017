use Rattle.std.proofs.Common.{◌*◌, ◌+◌, ◌∙◌}
use Rattle.std.proofs.lemmas.List.{length-set}
use Rattle.permission_core.specs.declared.objects.TheConstants.{OPERATIONS}
use Rattle.permission_core.proofs.RowLaws.{cleared_rows-none, cleared_rows-next}
use Rattle.permission_core.proofs.permissions.empty.Goals as goal

pub loop-operation-init : goal.loop-operation-init
loop-operation-init c = (c.requires, cleared_rows-none c.args.rows.now.items c.args.slot)

pub loop-operation-preserved : goal.loop-operation-preserved
loop-operation-preserved c =
    let place = OPERATIONS * c.args.slot + c.loop-operation.operation in (
      length-set c.loop-operation.rows.items place c.new.result ∙ c.loop-operation.invariant.0,
      cleared_rows-next c.args.rows.now.items c.loop-operation.rows.items c.args.slot c.loop-operation.operation c.new.result c.loop-operation.invariant.1 c.new.ensures,
    )
