use Rattle.std.proofs.Common.{◌≡◌, ◌≤◌, length, All}
use Rattle.limits.specs.declared.TheConstants.{LARGEST_ANSWER}
use Rattle.neighbourhood_tests.proofs.tests.some_answers.Given as goal

-- as many answers as cells, each within its range
abbrev pub invariant-loop-cell : goal.invariant-loop-cell
invariant-loop-cell g l = (length l.answers.items ≡ l._cell) × All (λ x. x ≤ LARGEST_ANSWER) l.answers.items
