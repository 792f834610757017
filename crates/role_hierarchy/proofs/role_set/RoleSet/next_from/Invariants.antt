use Rattle.std.proofs.Common.{◌-◌, ◌≡◌, ℕ, ◌+◌, ◌*◌, ◌<◌, ◌≤◌, false}
use Rattle.role_hierarchy.specs.Roles.{has}
use Rattle.role_hierarchy.proofs.role_set.RoleSet.next_from.Given as goal

abbrev pub invariant-loop-place : goal.invariant-loop-place
invariant-loop-place l = (l.first < 64) × (l.from ≤ 64 * l.place + l.first) × ((q : ℕ) → l.from ≤ q → q < 64 * l.place + l.first → has l.self q ≡ false)

abbrev pub decreases-loop-place : goal.decreases-loop-place
decreases-loop-place l = 4 - l.place
