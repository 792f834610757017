use Rattle.std.proofs.Common.{Ok, sym, ap, subst, ◌∙◌}
use Rattle.policy_core.specs.State.{PolicyState}
use Rattle.rbac_core.specs.declared.command.Outcome.{Outcome}
use Rattle.rbac_core.specs.Step.{after, refusal_of}
use Rattle.permission_table.specs.Compiled.{AreCompiled}
use Rattle.board_rules.specs.Policies.{reply_of}
use Rattle.board_state.specs.declared.change.Change.TheVariants.{Nothing}
use Rattle.board_state.specs.Changes.{PolicyWillBe}
use Rattle.board_state.proofs.Commanding.{carried, refused, refused_alone}
use Rattle.board_state.proofs.commands.keep_command.Goals as goal

pub keep_tried-requires-clause-compiled : goal.keep_tried-requires-clause-compiled
keep_tried-requires-clause-compiled c =
    subst (λ (p : PolicyState). ∥ AreCompiled c.args.tables.now p ∥₁) (sym c.prepare.ensures.now) c.requires.compiled

pub returns-in-Ok-keep_tried-clause-reply : goal.returns-in-Ok-keep_tried-clause-reply
returns-in-Ok-keep_tried-clause-reply c session free =
    c.reply_to.ensures ∙ ap (λ (o : Outcome). reply_of (Ok o)) c.in-Ok.ensures.outcome
    ∙ sym (carried c.args.policy.now.now session c.args.command.now free c.in-Ok.ensures.allowed).0

pub returns-in-Ok-keep_tried-clause-made : goal.returns-in-Ok-keep_tried-clause-made
returns-in-Ok-keep_tried-clause-made c session free =
    let p = c.args.policy.now.now in
    let command = c.args.command.now in
    subst (λ (q : PolicyState). PolicyWillBe c.keep_tried.new.policy c.keep_tried.new.tables Nothing q)
    (ap (λ (q : PolicyState). after q command) c.prepare.ensures.now ∙ sym (carried p session command free c.in-Ok.ensures.allowed).1)
    c.in-Ok-keep_tried.ensures.made

pub returns-in-Err-clause-reply : goal.returns-in-Err-clause-reply
returns-in-Err-clause-reply c session free =
    let p = c.args.policy.now.now in
    let e = c.in-Err.refusal in
    (refused_alone p c.prepare.new.self c.args.tables.now session c.args.command.now e c.refused_by.result
    (λ due. refused p session c.args.command.now e free (due (refusal_of p c.args.command.now) c.in-Err.ensures.refused))
    c.in-Err.ensures.now c.requires.compiled c.requires.sizes c.refused_by.ensures.due c.refused_by.ensures.reply).0

pub returns-in-Err-clause-made : goal.returns-in-Err-clause-made
returns-in-Err-clause-made c session free =
    let p = c.args.policy.now.now in
    let e = c.in-Err.refusal in
    (refused_alone p c.prepare.new.self c.args.tables.now session c.args.command.now e c.refused_by.result
    (λ due. refused p session c.args.command.now e free (due (refusal_of p c.args.command.now) c.in-Err.ensures.refused))
    c.in-Err.ensures.now c.requires.compiled c.requires.sizes c.refused_by.ensures.due c.refused_by.ensures.reply).1
