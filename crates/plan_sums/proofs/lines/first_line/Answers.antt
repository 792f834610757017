use Rattle.std.proofs.Common.{◌-◌, length, drop, arith}
use Rattle.std.proofs.lemmas.List.{length-take, length-drop}
use Rattle.plan_sums.proofs.Cutting.{line_cut, line_last}
use Rattle.plan_sums.proofs.lines.first_line.Goals as goal

pub returns-in-Some-clause-line : goal.returns-in-Some-clause-line
returns-in-Some-clause-line c = line_cut c.args.text.now c.cut_at.result.0.now c.in-Some.rest.now (rw c.in-Some.is at c.cut_at.ensures.parts)

pub returns-clause-line : goal.returns-clause-line
returns-clause-line c =
    let text = c.args.text.now in
    line_last text c.cut_at.result.0.now _ c.requires (rw c.in_default.is at c.cut_at.ensures.parts) (omega (arith, length-take (length text - length text) (drop (length text) text), length-drop (length text) text))
