-- What a change of the policy says, from what the policy says of it.
use Rattle.std.proofs.Common.{◌≡◌, true, false, Option, Some, None, sym, subst, ◌∙◌}
use Rattle.std.specs.Prelude.{Result, Ok, Err, OnOk, OnErr, IfErr}
use Rattle.std.specs.Result.{result_err}
use Rattle.std.proofs.lemmas.Bool.{true≢false}
use Rattle.policy_core.specs.declared.refusal.Refusal.{Refusal}
use Rattle.policy_core.specs.declared.refusal.Refusal.TheVariants.{NoMemory}
use Rattle.policy_core.specs.State.{PolicyState}
use Rattle.policy_core.specs.Commands.{Says}
use Rattle.rbac_core.specs.declared.command.Command.{Command}
use Rattle.rbac_core.specs.Step.{refusal_of, after, takes_memory}

abbrev pub IsChanged : {T : Type 0} → PolicyState → PolicyState → Command → Result T Refusal → Type 0
IsChanged p next command r = record {
  ok : OnOk r (next ≡ after p command);
  allowed : OnOk r (refusal_of p command ≡ None);
  err : OnErr r (next ≡ p);
  refused : IfErr r (λ e. Says e (refusal_of p command));
  exact : takes_memory command ≡ false → result_err r ≡ refusal_of p command;
}

says : (e : Refusal) (refusal : Option Refusal) → refusal ≡ Some e → Says e refusal
says NoMemory refusal h = tt
says e refusal h = h

module _ {T : Type 0} (p next : PolicyState) (command k : Command) (is : command ≡ k) where
  -- by a command that takes no memory
  pub changed : (r : Result T Refusal) → OnOk r (next ≡ after p k) → OnErr r (next ≡ p) → result_err r ≡ refusal_of p k → IsChanged p next command r
  changed r ok err refused = subst (λ x. IsChanged p next x r) (sym is) (by r ok err refused)
    where
      by : (r : Result T Refusal) → OnOk r (next ≡ after p k) → OnErr r (next ≡ p) → result_err r ≡ refusal_of p k → IsChanged p next k r
      by (Ok x) ok err refused = record { ok = ok; allowed = sym refused; err = tt; refused = tt; exact = λ free. refused }
      by (Err e) ok err refused = record { ok = tt; allowed = tt; err = err; refused = says e _ (sym refused); exact = λ free. refused }

  -- by one that may take memory
  pub changed_or_lacking : takes_memory k ≡ true → (r : Result T Refusal) → OnOk r (next ≡ after p k) → OnOk r (refusal_of p k ≡ None) → OnErr r (next ≡ p) → IfErr r (λ e. Says e (refusal_of p k)) → IsChanged p next command r
  changed_or_lacking takes r ok allowed err refused =
      subst (λ x. IsChanged p next x r) (sym is) (record { ok = ok; allowed = allowed; err = err; refused = refused; exact = λ free. absurd (true≢false (sym takes ∙ free)) })
