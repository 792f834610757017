use Rattle.std.proofs.Common.{◌≡◌, ◌↔◌, None, sym, subst, ◌∙◌}
use Rattle.role_hierarchy.specs.Roles.{first_free}
use Rattle.role_hierarchy.specs.Order.{role_count}
use Rattle.policy_core.specs.State.{PolicyState}
use Rattle.policy_core.proofs.policy.Policy.is_full_by_count.Goals as goal

pub returns : goal.returns
returns c =
    let count = c.is_policy.ensures.whole.count in
    let law = subst (λ (p : PolicyState). (first_free p.order.roles ≡ None) ↔ (role_count p.order ≡ 256)) c.self.view_is c.is_full_by_count.ensures in
    ((λ free. count ∙ law.0 free), (λ all. law.1 (sym count ∙ all)))
