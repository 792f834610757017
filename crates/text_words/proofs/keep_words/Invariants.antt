use Rattle.std.proofs.Common.{◌≡◌, ◌++◌, ◌+◌, ◌-◌, ◌≤◌, length, map, drop}
use Rattle.text_words.specs.Words.{words}
use Rattle.text_words.proofs.keep_words.Given as goal

-- the words so far, and the words from the current place on
abbrev pub invariant-loop-start : goal.invariant-loop-start
invariant-loop-start l = record {
  found : map (λ w. w.now) l.kept.items ++ words (drop l.start l.line) ≡ words l.line;
  few : length l.kept.items ≤ l.most;
}

abbrev pub decreases-loop-start : goal.decreases-loop-start
decreases-loop-start l = length l.line + 1 - l.start
