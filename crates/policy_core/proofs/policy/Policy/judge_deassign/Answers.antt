use Rattle.std.proofs.Common.{ℕ, Option, refl, sym, ap, ap₂, ◌∙◌}
use Rattle.std.specs.Prelude.{is_some, unwrap_or}
use Rattle.role_hierarchy.specs.Roles.{has, without}
use Rattle.policy_core.specs.Commands.{deassign_refusal}
use Rattle.policy_core.proofs.CommandLaws.{fewer_whole, fewer_of, left_there}
use Rattle.policy_core.proofs.TestLaws.{fails, passes}
use Rattle.policy_core.proofs.policy.Policy.judge_deassign.Goals as goal

pub returns-clause-whole : goal.returns-clause-whole
returns-clause-whole c =
    let held = c.held_at-held.result in
    fewer_whole c.args.self.now c.args.self.now refl c.is_policy.ensures.whole c.is_policy.ensures.order c.args.user held c.remove.new.self (sym c.held_at-held.ensures) (fewer_of held c.in-Some-slot_of.slot c.remove.new.self c.remove.ensures)

pub returns-clause-used : goal.returns-clause-used
returns-clause-used c = left_there c.args.self.now c.args.self.now refl c.is_policy.ensures.whole c.args.user c.held_at-held.result c.in-Some-slot_of.slot c.remove.new.self (sym c.held_at-held.ensures) c.remove.ensures

pub returns-in_default-clause-refused : goal.returns-in_default-clause-refused
unfolding deassign_refusal
returns-in_default-clause-refused c = fails _ c.in_default.ensures.there

pub returns-in_default-slot_of-clause-refused : goal.returns-in_default-slot_of-clause-refused
unfolding deassign_refusal
returns-in_default-slot_of-clause-refused c = passes _ c.in-Some.ensures.there (fails _ (ap is_some c.in_default-slot_of.ensures))

pub returns-then-not-contains-clause-refused : goal.returns-then-not-contains-clause-refused
unfolding deassign_refusal
returns-then-not-contains-clause-refused c =
    passes _ c.in-Some.ensures.there (passes _ (ap is_some c.in-Some-slot_of.ensures)
    (fails _ (sym c.if-not-contains.true ∙ c.contains.ensures ∙ ap₂ (λ (o r : Option ℕ). has (unwrap_or o 0) (unwrap_or r 0)) (sym c.held_at-held.ensures) c.in-Some-slot_of.ensures)))

pub returns-clause-refused : goal.returns-clause-refused
unfolding deassign_refusal
returns-clause-refused c =
    passes _ c.in-Some.ensures.there (passes _ (ap is_some c.in-Some-slot_of.ensures)
    (passes _ (sym c.if-not-contains.false ∙ c.contains.ensures ∙ ap₂ (λ (o r : Option ℕ). has (unwrap_or o 0) (unwrap_or r 0)) (sym c.held_at-held.ensures) c.in-Some-slot_of.ensures) refl))

pub returns-clause-roles : goal.returns-clause-roles
returns-clause-roles c = c.remove.ensures ∙ ap₂ (λ (o r : Option ℕ). without (unwrap_or o 0) (unwrap_or r 0)) (sym c.held_at-held.ensures) c.in-Some-slot_of.ensures
