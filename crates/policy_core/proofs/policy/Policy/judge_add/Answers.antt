use Rattle.std.proofs.Common.{Some, None, sym, ap, ◌∙◌}
use Rattle.std.specs.Prelude.{is_some}
use Rattle.separation_core.specs.Groups.{Groups, limit_of, add_refusal}
use Rattle.policy_core.specs.declared.refusal.Refusal.TheVariants.{Already}
use Rattle.policy_core.specs.State.{slot_of}
use Rattle.policy_core.specs.Commands.{as_refusal, add_member_refusal}
use Rattle.policy_core.proofs.SetLaws.{in_set, room, may_break, may_join}
use Rattle.policy_core.proofs.TestLaws.{fails, passes, found}
use Rattle.policy_core.proofs.policy.Policy.judge_add.Goals as goal

pub returns-in_default-clause-refused : goal.returns-in_default-clause-refused
unfolding add_member_refusal
returns-in_default-clause-refused c = fails _ (ap is_some c.in_default.ensures)

pub returns-in_default-limit-clause-refused : goal.returns-in_default-limit-clause-refused
unfolding add_member_refusal
returns-in_default-limit-clause-refused c =
    passes _ (ap is_some c.in-Some.ensures)
    (found _ (ap (λ o. as_refusal Already (add_refusal o (slot_of c.args.self.now c.args.role))) (c.in_default-limit.ensures.value ∙ ap (λ (g : Groups). limit_of g c.args.name) c.sets.ensures)))

pub returns-then-contains-clause-refused : goal.returns-then-contains-clause-refused
returns-then-contains-clause-refused c =
    in_set c.args.kind c.args.self.now c.args.name c.args.role c.in-Some.slot c.in-Some-limit.limit c.in-Some.ensures (c.in-Some-limit.ensures.value ∙ ap (λ (g : Groups). limit_of g c.args.name) c.sets.ensures)
    (sym c.if-contains.true ∙ c.contains.ensures)

pub returns-in-Some-refusal_of_limit-clause-refused : goal.returns-in-Some-refusal_of_limit-clause-refused
returns-in-Some-refusal_of_limit-clause-refused c =
    may_join c.args.kind c.args.self.now c.args.name c.args.role c.in-Some.slot c.in-Some-limit.limit c.in-Some.ensures (c.in-Some-limit.ensures.value ∙ ap (λ (g : Groups). limit_of g c.args.name) c.sets.ensures)
    c.insert.new.self c.insert.ensures (Some c.in-Some-refusal_of_limit.refusal) c.in-Some-refusal_of_limit.ensures.changed (sym c.contains.ensures ∙ c.if-contains.false)

pub returns-in-None-clause-refused : goal.returns-in-None-clause-refused
returns-in-None-clause-refused c =
    may_join c.args.kind c.args.self.now c.args.name c.args.role c.in-Some.slot c.in-Some-limit.limit c.in-Some.ensures (c.in-Some-limit.ensures.value ∙ ap (λ (g : Groups). limit_of g c.args.name) c.sets.ensures)
    c.insert.new.self c.insert.ensures None c.in-None.ensures.changed (sym c.contains.ensures ∙ c.if-contains.false)

pub returns-in-None-clause-room : goal.returns-in-None-clause-room
returns-in-None-clause-room c =
    room c.args.kind c.args.self.now c.args.name c.args.role c.in-Some.slot c.in-Some-limit.limit c.in-Some.ensures (c.in-Some-limit.ensures.value ∙ ap (λ (g : Groups). limit_of g c.args.name) c.sets.ensures)
    (sym c.contains.ensures ∙ c.if-contains.false)

pub returns-in-None-clause-whole : goal.returns-in-None-clause-whole
returns-in-None-clause-whole c =
    sym (may_break c.args.kind c.args.self.now c.args.name c.args.role c.in-Some.slot c.in-Some-limit.limit c.in-Some.ensures (c.in-Some-limit.ensures.value ∙ ap (λ (g : Groups). limit_of g c.args.name) c.sets.ensures)
    c.insert.new.self c.insert.ensures None c.in-None.ensures.changed)

pub returns-in-None-clause-there : goal.returns-in-None-clause-there
returns-in-None-clause-there c = c.is_policy.ensures.whole.slots.there c.args.role c.in-Some.slot (sym c.in-Some.ensures)
