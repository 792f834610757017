use Rattle.std.proofs.Common.{◌≡◌, ◌++◌, length}
use Rattle.solomon_reader.specs.Cuts.{full_left, number_after}
use Rattle.solomon_reader.specs.Checks.{checked, rows_checks}
use Rattle.solomon_reader.specs.Reading.{nodes_of_rows}
use Rattle.solomon_reader.specs.Parts.{rows_read}
use Rattle.solomon_reader.proofs.reading.rows.Given as goal

abbrev pub invariant-rows : goal.invariant-rows
invariant-rows l = record {
  read : checked (rows_checks (number_after l.lines.number l.lines.rest.now) (length l.nodes.items) (full_left l.lines.number l.lines.rest.now)) (nodes_of_rows (full_left l.fn.lines.number l.fn.lines.rest.now)) ≡ rows_read (number_after l.fn.lines.number l.fn.lines.rest.now) 0 (full_left l.fn.lines.number l.fn.lines.rest.now);
  nodes : l.nodes.items ++ nodes_of_rows (full_left l.lines.number l.lines.rest.now) ≡ nodes_of_rows (full_left l.fn.lines.number l.fn.lines.rest.now);
  count : number_after l.lines.number l.lines.rest.now ≡ number_after l.fn.lines.number l.fn.lines.rest.now;
}

abbrev pub decreases-rows : goal.decreases-rows
decreases-rows l = length (full_left l.lines.number l.lines.rest.now)
