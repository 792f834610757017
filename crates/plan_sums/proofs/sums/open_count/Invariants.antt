use Rattle.std.proofs.Common.{◌≡◌, ◌≤◌, ◌+◌, drop}
use Rattle.plan_sums.specs.Texts.{open_count}
use Rattle.plan_sums.proofs.sums.open_count.Given as goal

-- with those of the rows that are left
abbrev pub invariant-loop-row : goal.invariant-loop-row
invariant-loop-row l = record {
  counted : l.count + open_count (drop l.row-index l.rows) ≡ open_count l.rows;
  few : l.count ≤ l.row-index;
}
