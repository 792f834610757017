use Rattle.policy_core.specs.Seen.{state_of}
use Rattle.policy_core.proofs.FewerLaws.{migrated_whole}
use Rattle.policy_core.proofs.policy.Policy.migrate.Goals as goal

pub invariant_of-self : goal.invariant_of-self
invariant_of-self c = migrated_whole (state_of c.self.inside) c.self.invariant c.are_sets.ensures.kept c.empty_broken.new.sessions.entries c.empty_broken.ensures
