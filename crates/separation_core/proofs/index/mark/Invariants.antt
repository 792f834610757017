use Rattle.std.proofs.Common.{◌≡◌, ℕ, ◌-◌, ◌<◌, ◌≤◌, ◌&&◌, ◌||◌, get_or}
use Rattle.std.specs.Prelude.{◌==◌}
use Rattle.role_hierarchy.specs.Roles.{has}
use Rattle.separation_core.proofs.IndexLaws.{upto}
use Rattle.separation_core.proofs.index.mark.Given as goal

abbrev pub invariant-loop-role : goal.invariant-loop-role
invariant-loop-role l = (l.from ≤ 256) × ((role q : ℕ) → role < 256 →
    has (get_or l.rows role 0) q ≡ (has (get_or l.initial.rows role 0) q || ((q == l.place) && upto l.roles l.from role)))

abbrev pub decreases-loop-role : goal.decreases-loop-role
decreases-loop-role l = 256 - l.from
