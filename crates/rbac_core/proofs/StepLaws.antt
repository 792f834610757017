-- A step is its guard and then its command.
use Rattle.std.proofs.Common.{◌≡◌, ℕ, Option, Some, None, sym, subst, ap, ap₂, ◌∙◌}
use Rattle.std.specs.Prelude.{Result, Ok, Err, OnOk, IfOk, IfErr}
use Rattle.std.specs.Option.{option_or}
use Rattle.std.specs.Result.{result_err}
use Rattle.rbac_core.specs.declared.command.Command.{Command}
use Rattle.rbac_core.specs.declared.command.Outcome.{Outcome}
use Rattle.policy_core.specs.declared.refusal.Refusal.{Refusal}
use Rattle.policy_core.specs.declared.refusal.Refusal.TheVariants.{NoMemory}
use Rattle.policy_core.specs.State.{PolicyState}
use Rattle.policy_core.specs.Commands.{Says}
use Rattle.rbac_core.specs.Step.{guard, refusal_of, after, outcome_of, answered, step, IsRefused}

refused_is : (e : Refusal) (p : PolicyState) (answer : PolicyState × Result Outcome Refusal) → answer ≡ (p, Err e) → IsRefused e answer p
refused_is NoMemory p answer h = tt
refused_is e p answer h = h

said : (e : Refusal) (p next : PolicyState) (outcome : Outcome) (refusal : Option Refusal) → Says e refusal → IsRefused e (answered p refusal next outcome) p
said NoMemory p next outcome refusal h = tt
said e p next outcome refusal h = ap (λ r. answered p r next outcome) h

module _ (p : PolicyState) (session : ℕ) (command : Command) where
  judged : (g : Option Refusal) → g ≡ guard p session command → step p session command ≡ answered p (option_or g (refusal_of p command)) (after p command) (outcome_of p command)
  unfolding step
  judged g h = ap (λ x. answered p (option_or x (refusal_of p command)) (after p command) (outcome_of p command)) (sym h)

  pub step_guarded : (e : Refusal) → Some e ≡ guard p session command → IsRefused e (step p session command) p
  step_guarded e h = refused_is e p _ (judged (Some e) h)

  pub step_ok : None ≡ guard p session command → (next : PolicyState) (r : Result Outcome Refusal) → OnOk r (next ≡ after p command) → IfOk r (λ o. o ≡ outcome_of p command) → OnOk r (refusal_of p command ≡ None) →
      IfOk r (λ o. step p session command ≡ (next, Ok o))
  step_ok passed next (Err e) is outcome allowed = tt
  step_ok passed next (Ok o) is outcome allowed =
      judged None passed ∙ ap (λ x. answered p x (after p command) (outcome_of p command)) allowed ∙ ap₂ (λ s a. (s, Ok a)) (sym is) (sym outcome)

  pub step_err : None ≡ guard p session command → (r : Result Outcome Refusal) → IfErr r (λ e. Says e (refusal_of p command)) → IfErr r (λ e. IsRefused e (step p session command) p)
  step_err passed (Ok o) says = tt
  step_err passed (Err e) says = (let P : PolicyState × Result Outcome Refusal → Type 0 = λ a. IsRefused e a p in subst P (sym (judged None passed)) (said e p (after p command) (outcome_of p command) (refusal_of p command) says))

  -- a command that takes no memory
  pub step_refused : (e : Refusal) → Some e ≡ guard p session command → step p session command ≡ (p, Err e)
  step_refused e h = judged (Some e) h

  pub step_exact : None ≡ guard p session command → (r : Result Outcome Refusal) → result_err r ≡ refusal_of p command → IfErr r (λ e. step p session command ≡ (p, Err e))
  step_exact passed (Ok o) exact = tt
  step_exact passed (Err e) exact = judged None passed ∙ ap (λ x. answered p x (after p command) (outcome_of p command)) (sym exact)
