use Rattle.std.proofs.Common.{◌≡◌, ℕ, ◌-◌, ◌<◌, ◌≤◌, true, get_or}
use Rattle.std.specs.Prelude.{◌↔◌}
use Rattle.role_hierarchy.specs.Roles.{has}
use Rattle.separation_core.proofs.index.places_of.Given as goal

abbrev pub invariant-loop-role : goal.invariant-loop-role
invariant-loop-role l = (l.from ≤ 256) × ((q : ℕ) →
    (has l.places q ≡ true) ↔ ((role : ℕ) × (role < l.from) × (has l.roles role ≡ true) × (has (get_or l.rows role 0) q ≡ true)))

abbrev pub decreases-loop-role : goal.decreases-loop-role
decreases-loop-role l = 256 - l.from
