use Rattle.std.proofs.Common.{◌≡◌, ◌-◌, ◌≤◌}
use Rattle.permission_core.specs.Objects.{without_range}
use Rattle.permission_core.proofs.objects.ObjectSet.remove_range.Given as goal

abbrev pub invariant-loop-from : goal.invariant-loop-from
invariant-loop-from l = (l.first ≤ l.from) × (l.from ≤ l.end) × (l.self ≡ without_range l.initial.self l.first (l.from - l.first))

abbrev pub decreases-loop-from : goal.decreases-loop-from
decreases-loop-from l = l.end - l.from
