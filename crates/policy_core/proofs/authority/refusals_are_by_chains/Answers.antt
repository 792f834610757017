use Rattle.policy_core.proofs.AuthorityLaws.{activate_by_chains, open_by_chains}
use Rattle.policy_core.proofs.authority.refusals_are_by_chains.Goals as goal

pub returns-clause-activate : goal.returns-clause-activate
returns-clause-activate c number role = activate_by_chains c.args.policy.now c.is_policy.ensures.order number role

pub returns-clause-open : goal.returns-clause-open
returns-clause-open c user roles = open_by_chains c.args.policy.now c.is_policy.ensures.order user roles
