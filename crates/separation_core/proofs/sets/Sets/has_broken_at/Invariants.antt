use Rattle.std.proofs.Common.{◌≡◌, ℕ, List, true, false, Some}
use Rattle.std.specs.Prelude.{slice_get}
use Rattle.role_hierarchy.specs.Roles.{has}
use Rattle.separation_core.specs.declared.sets.Limit.{Limit}
use Rattle.separation_core.specs.Groups.{is_broken}
use Rattle.separation_core.proofs.sets.Sets.has_broken_at.Given as goal

abbrev pub invariant-loop-rest : goal.invariant-loop-rest
invariant-loop-rest l = ((q : ℕ) → has l.rest q ≡ true → has l.places q ≡ true)
    × ((q : ℕ) (g : List ℕ × Limit) → has l.places q ≡ true → has l.rest q ≡ false → slice_get l.self-inside.groups.entries q ≡ Some g → is_broken l.given g.1 ≡ false)

abbrev pub decreases-loop-rest : goal.decreases-loop-rest
decreases-loop-rest l = l.rest
