use Rattle.std.proofs.Common.{sym, subst, ◌∙◌}
use Rattle.policy_core.specs.Seen.{state_of}
use Rattle.policy_core.specs.State.{IsPolicy}
use Rattle.policy_core.proofs.CommandLaws.{same_parts}
use Rattle.policy_core.proofs.policy.Policy.copy.Goals as goal

pub returns : goal.returns
returns c =
    same_parts (state_of c.self.inside) _ _ _ _ _ _ _ c.in_ok-users.ensures c.in_ok-roles.ensures c.in_ok-order.ensures c.in_ok-grants.ensures c.in_ok-ssd.ensures c.in_ok-dsd.ensures c.in_ok-sessions.ensures
    ∙ c.self.view_is

pub invariant_of-result : goal.invariant_of-result
invariant_of-result c =
    subst IsPolicy (sym (same_parts (state_of c.self.inside) _ _ _ _ _ _ _ c.in_ok-users.ensures c.in_ok-roles.ensures c.in_ok-order.ensures c.in_ok-grants.ensures c.in_ok-ssd.ensures c.in_ok-dsd.ensures c.in_ok-sessions.ensures))
    c.self.invariant
