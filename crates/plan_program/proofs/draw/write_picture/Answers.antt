use Rattle.std.proofs.Common.{◌∙◌, ℕ, List, ◌++◌, subst}
use Rattle.std.specs.List.{flat_map}
use Rattle.std.specs.Prelude.{string_bytes}
use Rattle.std.specs.Io.KnownBytes.{Appends}
use Rattle.plan_picture.specs.Texts.{head_text, mark_text}
use Rattle.line_engine.specs.Running.{AppendsPrefix}
use Rattle.plan_program.proofs.Holds.{drawn, drawn_end, drawn_part, on_err, part_held, part_none, svg_is}
use Rattle.plan_program.proofs.draw.write_picture.Goals as goal

pub returns-clause-ok : goal.returns-clause-ok
returns-clause-ok g c =
    let h = c.in_ok-push_head.ensures in
    let m = c.in_ok-write_marks.ensures.ok in
    let e = c.in_ok-push_end.ensures in
    let k = c.in_ok-hand_on.ensures.ok in
    let marks = c.in_ok-marks.ensures in
    subst (λ (l : List ℕ). Appends (g.W.Write.contents c.args.writer.now) (g.W.Write.contents c.hand_on.new.writer) l)
    (svg_is c.args.roads.now c.args.rows.now c.new-layout.result c.name.result.now c.args.tours.now c.as_slice.result.now c.requires.tours c.new-layout.ensures.value c.name.ensures (c.as_slice.ensures.value ∙ marks))
    (drawn (g.W.Write.contents c.args.writer.now) (g.W.Write.contents c.write_marks.new.writer) (g.W.Write.contents c.hand_on.new.writer) (string_bytes c.new-text.result) (string_bytes c.push_head.new.out) (string_bytes c.write_marks.new.text) (string_bytes c.push_end.new.out) (head_text c.new-layout.result c.name.result.now c.args.rows.now c.args.tours.now) (flat_map mark_text c.as_slice.result.now) c.new-text.ensures.bytes h m e k)

pub returns-in_err-marks-clause-part : goal.returns-in_err-marks-clause-part
returns-in_err-marks-clause-part g c = on_err _ (part_none (g.W.Write.contents c.args.writer.now) _)

pub returns-in_err-push_head-clause-part : goal.returns-in_err-push_head-clause-part
returns-in_err-push_head-clause-part g c = on_err _ (part_none (g.W.Write.contents c.args.writer.now) _)

pub returns-in_err-write_marks-clause-part : goal.returns-in_err-write_marks-clause-part
returns-in_err-write_marks-clause-part g c =
    on_err _ (subst (λ (l : List ℕ). AppendsPrefix (g.W.Write.contents c.args.writer.now) (g.W.Write.contents c.write_marks.new.writer) l)
    (svg_is c.args.roads.now c.args.rows.now c.new-layout.result c.name.result.now c.args.tours.now c.as_slice.result.now c.requires.tours c.new-layout.ensures.value c.name.ensures (c.as_slice.ensures.value ∙ c.in_ok-marks.ensures))
    (drawn_part (g.W.Write.contents c.args.writer.now) (g.W.Write.contents c.write_marks.new.writer) (string_bytes c.new-text.result) (string_bytes c.push_head.new.out) (head_text c.new-layout.result c.name.result.now c.args.rows.now c.args.tours.now) (flat_map mark_text c.as_slice.result.now) c.new-text.ensures.bytes c.in_ok-push_head.ensures c.in_err-write_marks.ensures.part))

pub returns-in_err-push_end-clause-part : goal.returns-in_err-push_end-clause-part
returns-in_err-push_end-clause-part g c =
    on_err _ (subst (λ (l : List ℕ). AppendsPrefix (g.W.Write.contents c.args.writer.now) (g.W.Write.contents c.write_marks.new.writer) l)
    (svg_is c.args.roads.now c.args.rows.now c.new-layout.result c.name.result.now c.args.tours.now c.as_slice.result.now c.requires.tours c.new-layout.ensures.value c.name.ensures (c.as_slice.ensures.value ∙ c.in_ok-marks.ensures))
    (drawn_part (g.W.Write.contents c.args.writer.now) (g.W.Write.contents c.write_marks.new.writer) (string_bytes c.new-text.result) (string_bytes c.push_head.new.out) (head_text c.new-layout.result c.name.result.now c.args.rows.now c.args.tours.now) (flat_map mark_text c.as_slice.result.now) c.new-text.ensures.bytes c.in_ok-push_head.ensures
    (part_held (g.W.Write.contents c.args.writer.now) (g.W.Write.contents c.write_marks.new.writer) (string_bytes c.write_marks.new.text) (string_bytes c.push_head.new.out ++ flat_map mark_text c.as_slice.result.now) c.in_ok-write_marks.ensures.ok)))

pub returns-in_err-hand_on-clause-part : goal.returns-in_err-hand_on-clause-part
returns-in_err-hand_on-clause-part g c =
    on_err _ (subst (λ (l : List ℕ). AppendsPrefix (g.W.Write.contents c.args.writer.now) (g.W.Write.contents c.hand_on.new.writer) l)
    (svg_is c.args.roads.now c.args.rows.now c.new-layout.result c.name.result.now c.args.tours.now c.as_slice.result.now c.requires.tours c.new-layout.ensures.value c.name.ensures (c.as_slice.ensures.value ∙ c.in_ok-marks.ensures))
    (drawn_end (g.W.Write.contents c.args.writer.now) (g.W.Write.contents c.write_marks.new.writer) (g.W.Write.contents c.hand_on.new.writer) (string_bytes c.new-text.result) (string_bytes c.push_head.new.out) (string_bytes c.write_marks.new.text) (string_bytes c.push_end.new.out) (head_text c.new-layout.result c.name.result.now c.args.rows.now c.args.tours.now) (flat_map mark_text c.as_slice.result.now) c.new-text.ensures.bytes c.in_ok-push_head.ensures c.in_ok-write_marks.ensures.ok c.in_ok-push_end.ensures c.in_err-hand_on.ensures.err))
