use Rattle.std.proofs.Common.{◌≡◌, ◌↔◌, None, subst}
use Rattle.role_hierarchy.specs.Roles.{first_free}
use Rattle.role_hierarchy.specs.Order.{Order, role_count}
use Rattle.role_hierarchy.proofs.Counts.{full_by_count}
use Rattle.role_hierarchy.proofs.hierarchy.Hierarchy.is_full_by_count.Goals as goal

pub returns : goal.returns
returns c = subst (λ (o : Order). (first_free o.roles ≡ None) ↔ (role_count o ≡ 256)) c.self.view_is (full_by_count c.self.inside.used c.is_small.ensures)
