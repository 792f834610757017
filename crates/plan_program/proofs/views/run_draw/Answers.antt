use Rattle.plan_picture.specs.Texts.{svg_text}
use Rattle.plan_program.specs.Views.{IsUnshown}
use Rattle.plan_program.proofs.Unshown.{part_shown, passed, unflushed}
use Rattle.plan_program.proofs.views.run_draw.Goals as goal

pub returns-in_err-write_picture-clause-err : goal.returns-in_err-write_picture-clause-err
returns-in_err-write_picture-clause-err g c =
    passed c.from_residual-in_err-write_picture.result c.in_err-write_picture.field-0.0 (IsUnshown svg_text c.args.instance.now c.args.output.now (g.W.Write.contents c.args.writer.now) (g.W.Write.contents c.write_picture.new.writer)) c.from_residual-in_err-write_picture.ensures.1
    (part_shown svg_text c.args.instance.now c.args.output.now (g.W.Write.contents c.args.writer.now) (g.W.Write.contents c.write_picture.new.writer) c.in_ok-plan.plan.roads c.in_ok-plan.plan.rows.items c.in_ok-plan.plan.tours.items c.in_err-write_picture.field-0.0 c.in_ok-plan.ensures.ok (rw c.as_slice.ensures.value at c.in_err-write_picture.ensures.part) c.in_err-write_picture.ensures.err)

pub returns-clause-err : goal.returns-clause-err
returns-clause-err g c =
    unflushed svg_text c.args.instance.now c.args.output.now (g.W.Write.contents c.args.writer.now) (g.W.Write.contents c.write_picture.new.writer) (g.W.Write.contents c.flush.new.self) c.in_ok-plan.plan.roads c.in_ok-plan.plan.rows.items c.in_ok-plan.plan.tours.items c.in_ok-plan.ensures.ok (rw c.as_slice.ensures.value at c.in_ok-write_picture.ensures.ok) c.in-Err.ensures.bytes
