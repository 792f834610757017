use Rattle.std.proofs.Common.{◌≡◌, ◌≤◌, ◌-◌, false}
use Rattle.policy_core.specs.Access.{some_below, is_reached}
use Rattle.policy_core.proofs.policy.Policy.reaches.Given as goal

abbrev pub invariant-loop-slot : goal.invariant-loop-slot
invariant-loop-slot l = (l.from ≤ 256) × (some_below (is_reached l.self l.below l.operation l.number) l.from ≡ false)

abbrev pub decreases-loop-slot : goal.decreases-loop-slot
decreases-loop-slot l = 256 - l.from
