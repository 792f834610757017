use Rattle.std.proofs.Common.{None, Some, sym, ap, ◌∙◌}
use Rattle.std.specs.Prelude.{bytes_eq}
use Rattle.std.specs.Map.{lookup}
use Rattle.role_hierarchy.specs.Below.{closed}
use Rattle.policy_core.specs.Seen.{state_of}
use Rattle.policy_core.specs.State.{PolicyState}
use Rattle.policy_core.proofs.ComingLaws.{role_judged}
use Rattle.policy_core.proofs.policy.Policy.refusal_of_role.Goals as goal

pub returns-in-Some : goal.returns-in-Some
returns-in-Some c =
    let p = state_of c.self.inside in
    role_judged p c.args.self.now c.self.view_is c.self.invariant c.is_order.ensures c.args.user c.args.held c.args.slot c.closure-given.result c.juniors.result (Some c.in-Some.set)
    (c.requires ∙ ap (λ (s : PolicyState). lookup (bytes_eq c.args.user) s.users) (sym c.self.view_is))
    (c.closure-given.ensures.value ∙ ap (closed p.order) c.insert.ensures) (λ b senior. (c.juniors.ensures.chains b).1 senior) c.in-Some.ensures.first

pub returns-in-None : goal.returns-in-None
returns-in-None c =
    let p = state_of c.self.inside in
    role_judged p c.args.self.now c.self.view_is c.self.invariant c.is_order.ensures c.args.user c.args.held c.args.slot c.closure-given.result c.juniors.result None
    (c.requires ∙ ap (λ (s : PolicyState). lookup (bytes_eq c.args.user) s.users) (sym c.self.view_is))
    (c.closure-given.ensures.value ∙ ap (closed p.order) c.insert.ensures) (λ b senior. (c.juniors.ensures.chains b).1 senior) c.in-None.ensures.first
