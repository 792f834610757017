use Rattle.std.proofs.Common.{◌≤◌, ◌-◌, length, map, drop}
use Rattle.text_words.specs.Ends.{AreWordEnds}
use Rattle.text_words.proofs.LineParts.{AreKept}
use Rattle.text_words.proofs.lines.cut_line.Given as goal

-- the words of the line up to the place are kept
abbrev pub invariant-words : goal.invariant-words
invariant-words l = record {
  low : l.from ≤ l.start;
  high : l.start ≤ length l.text;
  ends : AreWordEnds l.text l.start l.known.base l.known.bits;
  kept : AreKept (drop l.from l.text) (l.start - l.from) (map (λ w. w.now) l.kept.items);
}

abbrev pub decreases-words : goal.decreases-words
decreases-words l = length l.text - l.start
