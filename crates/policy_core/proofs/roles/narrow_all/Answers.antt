use Rattle.std.proofs.Common.{rules}
use Rattle.std.proofs.lemmas.Map.Made.{map_same_pairs}
use Rattle.policy_core.specs.Commands.{kept_authorized}
use Rattle.policy_core.proofs.roles.narrow_all.Goals as goal

pub returns : goal.returns
returns c = map_same_pairs _ (kept_authorized c.args.users.now.entries c.args.order.now) _ (λ key v b w f' t. search rules) _ _ c.retain.ensures.filtered
