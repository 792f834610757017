use Rattle.std.proofs.Common.{◌≡◌, length}
use Rattle.solomon_reader.specs.Fields.{trimmed_end}
use Rattle.solomon_reader.proofs.fields.trimmed_end.Given as goal

abbrev pub invariant-gaps : goal.invariant-gaps
invariant-gaps l = trimmed_end l.left ≡ trimmed_end l.text

abbrev pub decreases-gaps : goal.decreases-gaps
decreases-gaps l = length l.left
