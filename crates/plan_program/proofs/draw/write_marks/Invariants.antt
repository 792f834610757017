use Rattle.std.proofs.Common.{◌++◌, take}
use Rattle.std.specs.List.{flat_map}
use Rattle.std.specs.Prelude.{string_bytes}
use Rattle.plan_picture.specs.Texts.{mark_text}
use Rattle.plan_program.specs.Holding.{IsHeld}
use Rattle.plan_program.proofs.draw.write_marks.Given as goal

abbrev pub invariant-loop-mark : goal.invariant-loop-mark
invariant-loop-mark g l = IsHeld (g.W.Write.contents l.fn.writer) (g.W.Write.contents l.writer) (string_bytes l.text) (string_bytes l.fn.text ++ flat_map mark_text (take l.mark-index l.marks))
