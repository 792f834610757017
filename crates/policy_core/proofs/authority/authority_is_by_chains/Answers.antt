use Rattle.policy_core.proofs.AuthorityLaws.{below, one_below, authorized}
use Rattle.policy_core.proofs.authority.authority_is_by_chains.Goals as goal

pub returns-clause-below : goal.returns-clause-below
returns-clause-below c roles = below c.args.policy.now c.is_policy.ensures.order roles

pub returns-clause-one : goal.returns-clause-one
returns-clause-one c roles under each = one_below c.args.policy.now c.is_policy.ensures.order roles under each

pub returns-clause-authorized : goal.returns-clause-authorized
returns-clause-authorized c user role = authorized c.args.policy.now c.is_policy.ensures.order user role
