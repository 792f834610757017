use Rattle.std.proofs.Common.{rules}
use Rattle.std.proofs.lemmas.Map.Made.{map_same_pairs}
use Rattle.policy_core.specs.Commands.{migrated_session}
use Rattle.policy_core.proofs.sessions.empty_broken.Goals as goal

pub returns : goal.returns
returns c = map_same_pairs _ (migrated_session c.args.order.now c.args.dsd.now) _ (λ key v b w f' t. search rules) _ _ c.retain.ensures.filtered
