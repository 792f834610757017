use Rattle.std.proofs.Common.{rules, not}
use Rattle.std.specs.Prelude.{bytes_eq}
use Rattle.std.proofs.lemmas.Map.Made.{filter_same_pairs}
use Rattle.policy_core.proofs.users.drop_sessions_of.Goals as goal

pub returns : goal.returns
returns c = filter_same_pairs _ (λ e. not (bytes_eq e.1.user c.args.user)) _ (λ key v b w f' t. search rules) _ _ c.retain.ensures.filtered
