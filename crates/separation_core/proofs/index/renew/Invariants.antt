use Rattle.std.proofs.Common.{◌≡◌, ℕ, ◌<◌, get_or}
use Rattle.role_hierarchy.specs.Roles.{has}
use Rattle.separation_core.proofs.IndexLaws.{before}
use Rattle.separation_core.proofs.index.renew.Given as goal

abbrev pub invariant-loop-place : goal.invariant-loop-place
invariant-loop-place l = (role q : ℕ) → role < 256 → has (get_or l.rows role 0) q ≡ before l.groups.entries l.place role q
