use Rattle.policy_core.specs.State.{no_policy}
use Rattle.policy_core.proofs.CommandLaws.{same_parts, none_is_policy}
use Rattle.policy_core.proofs.policy.Policy.new.Goals as goal

pub returns : goal.returns
returns c =
    same_parts (no_policy c.args.customers c.args.vehicles) _ _ _ _ _ _ _ c.no_users-users.ensures c.no_roles-roles.ensures c.in_ok-order.ensures c.in_ok-grants.ensures c.new-ssd.ensures c.new-dsd.ensures c.no_sessions-sessions.ensures

pub invariant_of-result : goal.invariant_of-result
invariant_of-result c =
    none_is_policy c.args.customers c.args.vehicles c.requires.customers c.requires.vehicles _
    (same_parts (no_policy c.args.customers c.args.vehicles) _ _ _ _ _ _ _ c.no_users-users.ensures c.no_roles-roles.ensures c.in_ok-order.ensures c.in_ok-grants.ensures c.new-ssd.ensures c.new-dsd.ensures c.no_sessions-sessions.ensures)
