use Rattle.text_words.specs.Ends.{EndsNoWord}
use Rattle.text_words.proofs.ends.near_end.Given as goal

abbrev pub invariant-loop-i : goal.invariant-loop-i
invariant-loop-i l = EndsNoWord l.text l.from l.i
