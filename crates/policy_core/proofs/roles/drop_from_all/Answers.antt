use Rattle.std.proofs.Common.{rules}
use Rattle.std.proofs.lemmas.Map.Made.{map_same_pairs}
use Rattle.role_hierarchy.specs.Roles.{without}
use Rattle.policy_core.proofs.roles.drop_from_all.Goals as goal

pub returns : goal.returns
returns c = map_same_pairs _ (λ roles. without roles c.args.slot) _ (λ key v b w f' t. search rules) _ _ c.retain.ensures.filtered
