use Rattle.std.proofs.Common.{◌≡◌, ◌++◌}
use Rattle.plan_marks.specs.Entries.{entries_before}
use Rattle.plan_marks.proofs.entries.push_entries.Given as goal

abbrev pub invariant-loop-k : goal.invariant-loop-k
invariant-loop-k l = l.marks.items ≡ l.fn.marks.items ++ entries_before l.roads l.tours l.k
