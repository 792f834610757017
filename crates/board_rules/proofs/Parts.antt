-- A command on the policy by the parts of its step.
use Rattle.std.proofs.Common.{◌≡◌, ℕ, Option, Some, None, ap, ◌∙◌}
use Rattle.std.specs.Prelude.{Result}
use Rattle.std.specs.Option.{option_or}
use Rattle.policy_core.specs.declared.refusal.Refusal.{Refusal as PolicyRefusal}
use Rattle.policy_core.specs.State.{PolicyState}
use Rattle.rbac_core.specs.declared.command.Command.{Command}
use Rattle.rbac_core.specs.declared.command.Outcome.{Outcome}
use Rattle.rbac_core.specs.Step.{step, answered, guard, refusal_of, outcome_of, after as carried_out}
use Rattle.board_rules.specs.declared.reply.Reply.TheVariants.{Refused}
use Rattle.board_rules.specs.Policies.{board_refusal, outcome_reply, reply_of, policy_reply, policy_after}

module _ (p : PolicyState) (session : ℕ) (command : Command) where
  -- the step with these first refusals
  by_refusal : Option PolicyRefusal → PolicyState × Result Outcome PolicyRefusal
  by_refusal refusal = answered p refusal (carried_out p command) (outcome_of p command)

  reply_by : (refusal : Option PolicyRefusal) → option_or (guard p session command) (refusal_of p command) ≡ refusal → policy_reply p session command ≡ reply_of (by_refusal refusal).1
  unfolding policy_reply step by_refusal
  reply_by refusal e = ap (λ (r : Option PolicyRefusal). reply_of (answered p r (carried_out p command) (outcome_of p command)).1) e

  after_by : (refusal : Option PolicyRefusal) → option_or (guard p session command) (refusal_of p command) ≡ refusal → policy_after p session command ≡ (by_refusal refusal).0
  unfolding policy_after step by_refusal
  after_by refusal e = ap (λ (r : Option PolicyRefusal). (answered p r (carried_out p command) (outcome_of p command)).0) e

  pub barred : (e : PolicyRefusal) → guard p session command ≡ Some e → (policy_reply p session command ≡ Refused (board_refusal e)) × (policy_after p session command ≡ p)
  unfolding by_refusal
  barred e h =
      let first = ap (λ (o : Option PolicyRefusal). option_or o (refusal_of p command)) h in
      (reply_by (Some e) first, after_by (Some e) first)

  pub refused : (e : PolicyRefusal) → guard p session command ≡ None → refusal_of p command ≡ Some e
      → (policy_reply p session command ≡ Refused (board_refusal e)) × (policy_after p session command ≡ p)
  unfolding by_refusal
  refused e h own =
      let first = ap (λ (o : Option PolicyRefusal). option_or o (refusal_of p command)) h ∙ own in
      (reply_by (Some e) first, after_by (Some e) first)

  pub done : guard p session command ≡ None → refusal_of p command ≡ None
      → (policy_reply p session command ≡ outcome_reply (outcome_of p command)) × (policy_after p session command ≡ carried_out p command)
  unfolding by_refusal
  done h own =
      let first = ap (λ (o : Option PolicyRefusal). option_or o (refusal_of p command)) h ∙ own in
      (reply_by None first, after_by None first)
