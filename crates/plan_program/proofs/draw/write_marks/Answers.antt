use Rattle.std.specs.Prelude.{string_bytes}
use Rattle.plan_program.proofs.Holds.{marks_fail, marks_held, marks_more, on_err}
use Rattle.plan_program.proofs.draw.write_marks.Goals as goal

pub loop-mark-preserved : goal.loop-mark-preserved
loop-mark-preserved g c =
    let h = c.in_ok-push_mark.ensures in
    let k = c.in_ok-hand_on_full.ensures.ok in
    marks_more (g.W.Write.contents c.args.writer.now) (g.W.Write.contents c.loop-mark.writer) (g.W.Write.contents c.hand_on_full.new.writer) (string_bytes c.loop-mark.text) (string_bytes c.push_mark.new.out) (string_bytes c.hand_on_full.new.text) (string_bytes c.args.text.now) c.args.marks.now c.loop-mark.mark-index _ c.loop-mark-test.true c.loop-mark.invariant h k

pub returns-in_err-push_mark-clause-part : goal.returns-in_err-push_mark-clause-part
returns-in_err-push_mark-clause-part g c =
    on_err _ (marks_held (g.W.Write.contents c.args.writer.now) (g.W.Write.contents c.loop-mark.writer) (string_bytes c.loop-mark.text) (string_bytes c.args.text.now) c.args.marks.now c.loop-mark.mark-index c.loop-mark.invariant)

pub returns-in_err-hand_on_full-clause-part : goal.returns-in_err-hand_on_full-clause-part
returns-in_err-hand_on_full-clause-part g c =
    on_err _ (marks_fail (g.W.Write.contents c.args.writer.now) (g.W.Write.contents c.loop-mark.writer) (g.W.Write.contents c.hand_on_full.new.writer) (string_bytes c.loop-mark.text) (string_bytes c.push_mark.new.out) (string_bytes c.args.text.now) c.args.marks.now c.loop-mark.mark-index _ c.loop-mark-test.true c.loop-mark.invariant c.in_ok-push_mark.ensures c.in_err-hand_on_full.ensures.err)
