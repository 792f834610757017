use Rattle.std.proofs.Common.{◌≤◌, ◌-◌, length}
use Rattle.text_words.specs.Ends.{EndsNoWord}
use Rattle.text_words.proofs.ends.more_ends.Given as goal

-- no word ends so far
abbrev pub invariant-loop-at : goal.invariant-loop-at
invariant-loop-at l = record {
  low : l.from ≤ l.at;
  high : l.at ≤ length l.text;
  none : EndsNoWord l.text l.from l.at;
}

abbrev pub decreases-loop-at : goal.decreases-loop-at
decreases-loop-at l = length l.text - l.at
