use Rattle.std.proofs.Common.{◌≡◌, length}
use Rattle.solomon_reader.specs.Fields.{trimmed_start}
use Rattle.solomon_reader.proofs.fields.trimmed_start.Given as goal

abbrev pub invariant-gaps : goal.invariant-gaps
invariant-gaps l = trimmed_start l.left ≡ trimmed_start l.text

abbrev pub decreases-gaps : goal.decreases-gaps
decreases-gaps l = length l.left
