use Rattle.std.proofs.Common.{◌∙◌, sym}
use Rattle.rbac_core.proofs.StepLaws.{step_guarded, step_ok, step_err, step_refused, step_exact}
use Rattle.rbac_core.proofs.steps.step.Goals as goal

pub returns-in-Some-clause-refused : goal.returns-in-Some-clause-refused
returns-in-Some-clause-refused c = step_guarded c.args.policy.now c.args.session c.args.command.now c.in-Some.refusal c.in-Some.ensures

pub returns-clause-ok : goal.returns-clause-ok
returns-clause-ok c =
    let done = c.carry_out.ensures in
    step_ok c.args.policy.now c.args.session c.args.command.now (sym c.in_default.is ∙ c.guard.ensures) c.carry_out.new.policy c.carry_out.result done.ok done.outcome done.allowed

pub returns-clause-refused : goal.returns-clause-refused
returns-clause-refused c = step_err c.args.policy.now c.args.session c.args.command.now (sym c.in_default.is ∙ c.guard.ensures) c.carry_out.result c.carry_out.ensures.refused

pub returns-in-Some-clause-exact : goal.returns-in-Some-clause-exact
returns-in-Some-clause-exact c free = step_refused c.args.policy.now c.args.session c.args.command.now c.in-Some.refusal c.in-Some.ensures

pub returns-clause-exact : goal.returns-clause-exact
returns-clause-exact c free = step_exact c.args.policy.now c.args.session c.args.command.now (sym c.in_default.is ∙ c.guard.ensures) c.carry_out.result (c.carry_out.ensures.exact free)
