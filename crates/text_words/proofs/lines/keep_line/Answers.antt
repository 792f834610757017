use Rattle.text_words.proofs.lines.keep_line.Goals as goal

pub cut_line-requires-clause-ends : goal.cut_line-requires-clause-ends
cut_line-requires-clause-ends c = c.none.ensures c.args.text.now 0
