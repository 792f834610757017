use Rattle.std.proofs.Common.{None, Some, sym, ap, ◌∙◌, arith}
use Rattle.std.specs.Prelude.{nat_eq}
use Rattle.std.specs.Map.{lookup}
use Rattle.role_hierarchy.specs.Roles.{with_role}
use Rattle.policy_core.specs.Seen.{state_of}
use Rattle.policy_core.specs.State.{PolicyState, counted}
use Rattle.policy_core.proofs.ComingLaws.{activation_judged}
use Rattle.policy_core.proofs.policy.Policy.refusal_of_activated.Goals as goal

pub returns-in-Some : goal.returns-in-Some
returns-in-Some c =
    let p = state_of c.self.inside in
    activation_judged p c.args.self.now c.self.view_is c.self.invariant c.is_order.ensures c.args.number c.args.user c.args.active c.args.slot c.count-given.result c.count-coming.result (Some c.in-Some.set)
    (omega (arith, c.ranges.slot.fits)) (c.requires ∙ ap (λ (s : PolicyState). lookup (nat_eq c.args.number) s.sessions) (sym c.self.view_is))
    (c.count-given.ensures ∙ ap (λ s. counted p.counting p.order s) c.insert.ensures)
    (c.count-coming.ensures ∙ ap (λ s. counted p.counting p.order s) (c.insert-2.ensures ∙ ap (λ s. with_role s c.args.slot) c.new-alone.ensures)) c.in-Some.ensures.first

pub returns-in-None : goal.returns-in-None
returns-in-None c =
    let p = state_of c.self.inside in
    activation_judged p c.args.self.now c.self.view_is c.self.invariant c.is_order.ensures c.args.number c.args.user c.args.active c.args.slot c.count-given.result c.count-coming.result None
    (omega (arith, c.ranges.slot.fits)) (c.requires ∙ ap (λ (s : PolicyState). lookup (nat_eq c.args.number) s.sessions) (sym c.self.view_is))
    (c.count-given.ensures ∙ ap (λ s. counted p.counting p.order s) c.insert.ensures)
    (c.count-coming.ensures ∙ ap (λ s. counted p.counting p.order s) (c.insert-2.ensures ∙ ap (λ s. with_role s c.args.slot) c.new-alone.ensures)) c.in-None.ensures.first
