use Rattle.role_hierarchy.specs.Order.{stands}
use Rattle.role_hierarchy.specs.Rows.{Above}
use Rattle.role_hierarchy.proofs.hierarchy.Hierarchy.seniors.Given as goal

abbrev pub invariant-loop-senior : goal.invariant-loop-senior
invariant-loop-senior l = Above (stands l.self) l.role l.senior l.above
