use Rattle.plan_sums.specs.Texts.{sums_text}
use Rattle.plan_program.specs.Views.{IsUnshown}
use Rattle.plan_program.proofs.Unshown.{part_shown, passed, unflushed}
use Rattle.plan_program.proofs.views.run_sums.Goals as goal

pub returns-in_err-write_sums-clause-err : goal.returns-in_err-write_sums-clause-err
returns-in_err-write_sums-clause-err g c =
    passed c.from_residual-in_err-write_sums.result c.in_err-write_sums.field-0.0 (IsUnshown sums_text c.args.instance.now c.args.output.now (g.W.Write.contents c.args.writer.now) (g.W.Write.contents c.write_sums.new.writer)) c.from_residual-in_err-write_sums.ensures.1
    (part_shown sums_text c.args.instance.now c.args.output.now (g.W.Write.contents c.args.writer.now) (g.W.Write.contents c.write_sums.new.writer) c.in_ok-plan.plan.roads c.in_ok-plan.plan.rows.items c.in_ok-plan.plan.tours.items c.in_err-write_sums.field-0.0 c.in_ok-plan.ensures.ok (rw c.as_slice.ensures.value at c.in_err-write_sums.ensures.part) c.in_err-write_sums.ensures.err)

pub returns-clause-err : goal.returns-clause-err
returns-clause-err g c =
    unflushed sums_text c.args.instance.now c.args.output.now (g.W.Write.contents c.args.writer.now) (g.W.Write.contents c.write_sums.new.writer) (g.W.Write.contents c.flush.new.self) c.in_ok-plan.plan.roads c.in_ok-plan.plan.rows.items c.in_ok-plan.plan.tours.items c.in_ok-plan.ensures.ok (rw c.as_slice.ensures.value at c.in_ok-write_sums.ensures.ok) c.in-Err.ensures.bytes
