use Rattle.line_engine.proofs.CutLines.{cut_lines, full_lines}
use Rattle.line_engine.proofs.laws.texts_have_their_lines.Goals as goal

pub returns-clause-parts : goal.returns-clause-parts
returns-clause-parts c = cut_lines

pub returns-clause-whole : goal.returns-clause-whole
returns-clause-whole c = full_lines
