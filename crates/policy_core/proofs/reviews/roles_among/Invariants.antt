use Rattle.std.proofs.Common.{◌≡◌, ℕ, List, map, filter, take}
use Rattle.role_hierarchy.specs.Roles.{has}
use Rattle.policy_core.proofs.reviews.roles_among.Given as goal

abbrev pub invariant-loop-place : goal.invariant-loop-place
invariant-loop-place l = l.names.items ≡ map (λ (u : List ℕ × ℕ). u.0) (filter (λ u. has l.roles u.1) (take l.place l.all.entries))
