use Rattle.text_words.specs.Words.{HasNoGap}
use Rattle.text_words.proofs.part_end.Given as goal

abbrev pub invariant-loop-i : goal.invariant-loop-i
invariant-loop-i l = HasNoGap l.line l.from l.i
