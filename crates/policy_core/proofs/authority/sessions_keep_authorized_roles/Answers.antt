use Rattle.policy_core.proofs.AuthorityLaws.{deassigned_by_chains, uninherited_by_chains, deleted_by_chains}
use Rattle.policy_core.proofs.authority.sessions_keep_authorized_roles.Goals as goal

pub returns-clause-deassigned : goal.returns-clause-deassigned
returns-clause-deassigned c user role is = deassigned_by_chains c.args.old.now c.args.new.now c.is_policy.ensures.order user role is

pub returns-clause-uninherited : goal.returns-clause-uninherited
returns-clause-uninherited c senior junior is = uninherited_by_chains c.args.old.now c.args.new.now c.is_policy.ensures.order senior junior is

pub returns-clause-deleted : goal.returns-clause-deleted
returns-clause-deleted c role is = deleted_by_chains c.args.old.now c.args.new.now c.is_policy.ensures.order role is
