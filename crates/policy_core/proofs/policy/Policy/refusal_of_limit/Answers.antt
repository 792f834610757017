use Rattle.std.proofs.Common.{true, false, Some, sym, ap, ◌∙◌}
use Rattle.policy_core.specs.declared.separation.Separation.{Separation}
use Rattle.policy_core.proofs.SetLaws.{named_by, created_broken, changed_broken}
use Rattle.policy_core.proofs.policy.Policy.refusal_of_limit.Goals as goal

pub returns-then-not-is_breaking-clause-created : goal.returns-then-not-is_breaking-clause-created
returns-then-not-is_breaking-clause-created c = created_broken c.args.self.now c.is_policy.ensures.whole c.args.kind c.args.name (record { roles = c.args.roles; number = c.args.number }) false (sym c.if-not-is_breaking.true ∙ c.is_breaking.ensures)

pub returns-then-not-is_breaking-clause-changed : goal.returns-then-not-is_breaking-clause-changed
returns-then-not-is_breaking-clause-changed c = changed_broken c.args.self.now c.is_policy.ensures.whole c.args.kind c.args.name (record { roles = c.args.roles; number = c.args.number }) false (sym c.if-not-is_breaking.true ∙ c.is_breaking.ensures)

pub returns-in-Static-clause-created : goal.returns-in-Static-clause-created
returns-in-Static-clause-created c = ap (λ (kind : Separation). Some (named_by kind c.args.name)) (sym c.in-Static.is) ∙ created_broken c.args.self.now c.is_policy.ensures.whole c.args.kind c.args.name (record { roles = c.args.roles; number = c.args.number }) true (sym c.if-not-is_breaking.false ∙ c.is_breaking.ensures)

pub returns-in-Static-clause-changed : goal.returns-in-Static-clause-changed
returns-in-Static-clause-changed c f limit there becomes = ap (λ (kind : Separation). Some (named_by kind c.args.name)) (sym c.in-Static.is) ∙ changed_broken c.args.self.now c.is_policy.ensures.whole c.args.kind c.args.name (record { roles = c.args.roles; number = c.args.number }) true (sym c.if-not-is_breaking.false ∙ c.is_breaking.ensures) f limit there becomes

pub returns-in-Dynamic-clause-created : goal.returns-in-Dynamic-clause-created
returns-in-Dynamic-clause-created c = ap (λ (kind : Separation). Some (named_by kind c.args.name)) (sym c.in-Dynamic.is) ∙ created_broken c.args.self.now c.is_policy.ensures.whole c.args.kind c.args.name (record { roles = c.args.roles; number = c.args.number }) true (sym c.if-not-is_breaking.false ∙ c.is_breaking.ensures)

pub returns-in-Dynamic-clause-changed : goal.returns-in-Dynamic-clause-changed
returns-in-Dynamic-clause-changed c f limit there becomes = ap (λ (kind : Separation). Some (named_by kind c.args.name)) (sym c.in-Dynamic.is) ∙ changed_broken c.args.self.now c.is_policy.ensures.whole c.args.kind c.args.name (record { roles = c.args.roles; number = c.args.number }) true (sym c.if-not-is_breaking.false ∙ c.is_breaking.ensures) f limit there becomes
