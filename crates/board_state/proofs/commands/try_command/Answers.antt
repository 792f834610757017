use Rattle.std.proofs.Common.{Ok, sym, ap, subst, ◌∙◌}
use Rattle.policy_core.specs.State.{PolicyState}
use Rattle.rbac_core.specs.declared.command.Outcome.{Outcome}
use Rattle.rbac_core.specs.Step.{after, refusal_of}
use Rattle.permission_table.specs.Compiled.{AreCompiled}
use Rattle.board_rules.specs.Policies.{reply_of}
use Rattle.board_state.specs.Changes.{PolicyWillBe}
use Rattle.board_state.proofs.Commanding.{carried, refused, refused_call}
use Rattle.board_state.proofs.commands.try_command.Goals as goal

pub compile-requires-clause-compiled : goal.compile-requires-clause-compiled
compile-requires-clause-compiled c =
    subst (λ (p : PolicyState). ∥ AreCompiled c.args.tables.now p ∥₁) (sym c.prepare.ensures.now) c.requires.compiled

pub returns-in-Ok-compile-clause-reply : goal.returns-in-Ok-compile-clause-reply
returns-in-Ok-compile-clause-reply c session free =
    c.reply_to.ensures ∙ ap (λ (o : Outcome). reply_of (Ok o)) c.in-Ok.ensures.outcome
    ∙ sym (carried c.args.policy.now.now session c.args.command.now free c.in-Ok.ensures.allowed).0

pub returns-in-Ok-compile-clause-change : goal.returns-in-Ok-compile-clause-change
returns-in-Ok-compile-clause-change c session free =
    subst (λ (p : PolicyState). PolicyWillBe c.prepare.new.self c.compile.new.tables c.in-Ok-compile.change p)
    (ap (λ (p : PolicyState). after p c.args.command.now) c.prepare.ensures.now ∙ sym (carried c.args.policy.now.now session c.args.command.now free c.in-Ok.ensures.allowed).1)
    c.in-Ok-compile.ensures.change

pub returns-in-Err-clause-reply : goal.returns-in-Err-clause-reply
returns-in-Err-clause-reply c session free =
    let p = c.args.policy.now.now in
    let e = c.in-Err.refusal in
    (refused_call p c.prepare.new.self c.args.tables.now session c.args.command.now e c.refused.result
    (λ due. refused p session c.args.command.now e free (due (refusal_of p c.args.command.now) c.in-Err.ensures.refused))
    c.in-Err.ensures.now c.requires.compiled c.requires.sizes c.refused.ensures.due c.refused.ensures.reply c.refused.ensures.change).0

pub returns-in-Err-clause-change : goal.returns-in-Err-clause-change
returns-in-Err-clause-change c session free =
    let p = c.args.policy.now.now in
    let e = c.in-Err.refusal in
    (refused_call p c.prepare.new.self c.args.tables.now session c.args.command.now e c.refused.result
    (λ due. refused p session c.args.command.now e free (due (refusal_of p c.args.command.now) c.in-Err.ensures.refused))
    c.in-Err.ensures.now c.requires.compiled c.requires.sizes c.refused.ensures.due c.refused.ensures.reply c.refused.ensures.change).1
