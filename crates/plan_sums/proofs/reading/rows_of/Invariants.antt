use Rattle.std.proofs.Common.{◌≡◌, ◌+◌, ◌<◌, ℕ, Some, length, map}
use Rattle.plan_sums.specs.Lines.{line_at}
use Rattle.plan_sums.specs.Progress.{AreTaken}
use Rattle.plan_sums.specs.Reading.{row_of}
use Rattle.plan_sums.specs.Rows.{row_at}
use Rattle.plan_sums.proofs.reading.rows_of.Given as goal

abbrev pub invariant-loop-k : goal.invariant-loop-k
invariant-loop-k l = record {
  taken : AreTaken l.roads l.taken.rows.items l.taken.seen.items;
  read : (k : ℕ) → k < length l.taken.rows.items → row_of (line_at (map (λ w. w.now) l.lines) (l.fn.span.first + k)) ≡ Some (row_at l.taken.rows.items k);
  counted : l.fn.span.first + length l.taken.rows.items ≡ l.k;
}
