use Rattle.std.proofs.Common.{arith}
use Rattle.text_words.proofs.lines.Lines.new.Goals as goal

pub invariant_of-result : goal.invariant_of-result
invariant_of-result c = (omega arith, c.none.ensures c.args.text.now 0)
