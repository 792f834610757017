use Rattle.std.proofs.Common.{sym, ap, ◌∙◌}
use Rattle.std.specs.Prelude.{bytes_eq}
use Rattle.std.specs.Map.{lookup}
use Rattle.policy_core.specs.State.{PolicyState, place_of}
use Rattle.policy_core.proofs.PlaceLaws.{entry_value}
use Rattle.policy_core.proofs.policy.Policy.held_at.Goals as goal

pub returns : goal.returns
returns c =
    ap (λ (q : PolicyState). lookup (bytes_eq c.args.user) q.users) (sym c.self.view_is)
    ∙ entry_value c.self.inside.users.entries c.args.user c.args.place (ap (λ (q : PolicyState). place_of q c.args.user) c.self.view_is ∙ c.requires)
    (c.in-Some.field-0-0.now, c.in-Some.held.now) c.in-Some.ensures.entry
