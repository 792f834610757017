use Rattle.std.proofs.Common.{◌≡◌, ◌++◌, length, map}
use Rattle.solomon_reader.specs.Cuts.{lines}
use Rattle.plan_sums.proofs.lines.lines_of.Given as goal

-- the lines so far, and those of what is left
abbrev pub invariant-lines : goal.invariant-lines
invariant-lines l = map (λ w. w.now) l.kept.items ++ lines l.left ≡ lines l.fn.text

abbrev pub decreases-lines : goal.decreases-lines
decreases-lines l = length l.left
