-- Policy commands: what the compiled permissions and the spare policy say of the step.
use Rattle.std.proofs.Common.{◌≡◌, ℕ, ◌∷◌, List, not, find, ◌&&◌, if◌then◌else◌, Bool, true, false, Option, Some, None, Result, Ok, Err, refl, sym, ap, ◌∙◌, subst}
use Rattle.std.specs.Result.{IfOk, MatchResult}
use Rattle.std.specs.Option.{option_or, is_some}
use Rattle.std.proofs.Math.Logic.{∥∥₁_elim}
use Rattle.std.proofs.Math.Bool.{Bool-set}
use Rattle.permission_core.specs.declared.objects.Operation.{Operation}
use Rattle.permission_core.specs.declared.objects.Object.{Object}
use Rattle.policy_core.specs.State.{PolicyState, is_session}
use Rattle.policy_core.specs.Access.{has_access}
use Rattle.policy_core.specs.Commands.{Says}
use Rattle.policy_core.specs.declared.refusal.Refusal.{Refusal}
use Rattle.policy_core.specs.declared.refusal.Refusal.TheVariants.{NoSession, NoAccess, NoUser, NoRole, NoSet, BadObject, Already, NotThere, NotAuthorized, Cycle, InSet, Number, Ssd, Dsd, Full, NoMemory}
use Rattle.rbac_core.specs.declared.command.Command.{Command}
use Rattle.rbac_core.specs.Step.{guard, guard_by, refusal_of, after, outcome_of, step, answered}
use Rattle.rbac_core.specs.Tried.{Tried}
use Rattle.permission_table.specs.Tables.{TablesState, allows}
use Rattle.permission_table.specs.Compiled.{AreCompiled, HasSizes}
use Rattle.board_rules.specs.declared.reply.Reply.{Reply}
use Rattle.board_rules.specs.declared.reply.Reply.TheVariants.{Refused}
use Rattle.board_rules.specs.Policies.{board_refusal, reply_of, policy_reply, policy_after}
use Rattle.board_state.specs.declared.change.Change.{Change}
use Rattle.board_state.specs.declared.change.Change.TheVariants.{Nothing, Replace, Pins, Command as CommandChange}
use Rattle.board_state.specs.Changes.{PolicyWillBe, IsGivenUp, policy_made}

-- the tables say what the test says
pub allows_access : (t : TablesState) (p : PolicyState) → ∥ AreCompiled t p ∥₁ → (session : ℕ) (operation : Operation) (object : Object)
    → allows t session operation object ≡ has_access p session operation object
allows_access t p compiled session operation object = ∥∥₁_elim compiled (Bool-set _ _) (λ are. are.0 session operation object)

-- a session that may do something is there
and_first : (a b : Bool) → (a && b) ≡ true → a ≡ true
and_first true b e = refl
and_first false b e = absurd cc

open_by : (p : PolicyState) (session : ℕ) (operation : Operation) (object : Object) → has_access p session operation object ≡ true → is_session p session ≡ true
unfolding has_access
open_by p session operation object e = and_first (is_session p session) _ e

pub allowed_open : (t : TablesState) (p : PolicyState) → ∥ AreCompiled t p ∥₁ → (session : ℕ) (operation : Operation) (object : Object)
    → allows t session operation object ≡ true → is_session p session ≡ true
allowed_open t p compiled session operation object e = open_by p session operation object (sym (allows_access t p compiled session operation object) ∙ e)

pub none_there : {X : Type 0} (o : Option X) (b : Bool) → is_some o ≡ not b → b ≡ true → o ≡ None
none_there None b e h = refl
none_there (Some x) b e h = let bad : true ≡ false = e ∙ ap not h in absurd cc

-- a session that has `admin` on the board may give any command
pub admin_guard : (p : PolicyState) (session : ℕ) (command : Command) → is_session p session ≡ true → guard_by true p session command ≡ None
unfolding guard_by
admin_guard p session command e = ap (λ (b : Bool). if not b then Some NoSession else None) e

-- where no vehicle is barred, the first one is allowed
pub first_allowed : (P : ℕ → Bool) (x : ℕ) (xs : List ℕ) → find (λ v. not (P v)) (x ∷ xs) ≡ None → P x ≡ true
first_allowed P x xs e = by_test (P x) refl
  where
    by_test : (b : Bool) → P x ≡ b → P x ≡ true
    by_test true h = h
    by_test false h =
        let bad : Some x ≡ None = subst (λ (b : Bool). (if not b then Some x else find (λ v. not (P v)) xs) ≡ None) h e in
        absurd cc

-- a refusal of the guard, and one of the command
pub guarded : (p : PolicyState) (session : ℕ) (command : Command) (e : Refusal) → guard p session command ≡ Some e
    → (policy_reply p session command ≡ Refused (board_refusal e)) × (policy_after p session command ≡ p)
unfolding policy_reply policy_after step
guarded p session command e h = (
  ap (λ o. reply_of (answered p (option_or o (refusal_of p command)) (after p command) (outcome_of p command)).1) h,
  ap (λ o. (answered p (option_or o (refusal_of p command)) (after p command) (outcome_of p command)).0) h,
)

pub refused : (p : PolicyState) (session : ℕ) (command : Command) (e : Refusal) → guard p session command ≡ None → refusal_of p command ≡ Some e
    → (policy_reply p session command ≡ Refused (board_refusal e)) × (policy_after p session command ≡ p)
unfolding policy_reply policy_after step
refused p session command e free h = (
  ap (λ o. reply_of (answered p (option_or o (refusal_of p command)) (after p command) (outcome_of p command)).1) free
      ∙ ap (λ o. reply_of (answered p o (after p command) (outcome_of p command)).1) h,
  ap (λ o. (answered p (option_or o (refusal_of p command)) (after p command) (outcome_of p command)).0) free
      ∙ ap (λ o. (answered p o (after p command) (outcome_of p command)).0) h,
)

-- a command that is carried out
pub carried : (p : PolicyState) (session : ℕ) (command : Command) → guard p session command ≡ None → refusal_of p command ≡ None
    → (policy_reply p session command ≡ reply_of (Ok (outcome_of p command))) × (policy_after p session command ≡ after p command)
unfolding policy_reply policy_after step
carried p session command free h = (
  ap (λ o. reply_of (answered p (option_or o (refusal_of p command)) (after p command) (outcome_of p command)).1) free
      ∙ ap (λ o. reply_of (answered p o (after p command) (outcome_of p command)).1) h,
  ap (λ o. (answered p (option_or o (refusal_of p command)) (after p command) (outcome_of p command)).0) free
      ∙ ap (λ o. (answered p o (after p command) (outcome_of p command)).0) h,
)

-- every refusal but running out of memory is the one that is due
pub says_other : (e : Refusal) (o : Option Refusal) → Says e o → (e ≡ NoMemory → ⊥) → o ≡ Some e
says_other NoSession o h other = h
says_other NoAccess o h other = h
says_other NoUser o h other = h
says_other NoRole o h other = h
says_other NoSet o h other = h
says_other BadObject o h other = h
says_other Already o h other = h
says_other NotThere o h other = h
says_other NotAuthorized o h other = h
says_other Cycle o h other = h
says_other InSet o h other = h
says_other Number o h other = h
says_other (Ssd set) o h other = h
says_other (Dsd set) o h other = h
says_other Full o h other = h
says_other NoMemory o h other = absurd (other refl)

-- what a refused command answers, and that it changes nothing
pub refused_call : {E : Type 0} (p : PolicyState) (policy : Tried) (tables : TablesState) (session : ℕ) (command : Command) (e : Refusal) (result : Result (Reply × Change) E)
    → (((o : Option Refusal) → Says e o → o ≡ Some e) → (policy_reply p session command ≡ Refused (board_refusal e)) × (policy_after p session command ≡ p))
    → policy.now ≡ p → ∥ AreCompiled tables p ∥₁ → HasSizes p tables
    → IfOk result (λ _. (o : Option Refusal) → Says e o → o ≡ Some e) → IfOk result (λ r. r.0 ≡ Refused (board_refusal e)) → IfOk result (λ r. r.1 ≡ Nothing)
    → IfOk result (λ r. r.0 ≡ policy_reply p session command) × IfOk result (λ r. PolicyWillBe policy tables r.1 (policy_after p session command))
refused_call p policy tables session command e (Err x) says now compiled sizes due reply change = (tt, tt)
refused_call p policy tables session command e (Ok r) says now compiled sizes due reply change =
    let said = says due in (
      reply ∙ sym said.0,
      subst (λ (x : Change). PolicyWillBe policy tables x (policy_after p session command)) (sym change) (record {
        ready = tt;
        made = now ∙ sym said.1;
        compiled = subst (λ (q : PolicyState). ∥ AreCompiled tables q ∥₁) (sym said.1) compiled;
        sizes = subst (λ (q : PolicyState). HasSizes q tables) (sym said.1) sizes;
      }),
    )

-- the same where the answer alone is given
pub refused_alone : {E : Type 0} (p : PolicyState) (policy : Tried) (tables : TablesState) (session : ℕ) (command : Command) (e : Refusal) (result : Result Reply E)
    → (((o : Option Refusal) → Says e o → o ≡ Some e) → (policy_reply p session command ≡ Refused (board_refusal e)) × (policy_after p session command ≡ p))
    → policy.now ≡ p → ∥ AreCompiled tables p ∥₁ → HasSizes p tables
    → IfOk result (λ _. (o : Option Refusal) → Says e o → o ≡ Some e) → IfOk result (λ reply. reply ≡ Refused (board_refusal e))
    → IfOk result (λ reply. reply ≡ policy_reply p session command) × IfOk result (λ _. PolicyWillBe policy tables Nothing (policy_after p session command))
refused_alone p policy tables session command e (Err x) says now compiled sizes due reply = (tt, tt)
refused_alone p policy tables session command e (Ok r) says now compiled sizes due reply =
    let said = says due in (
      reply ∙ sym said.0,
      record {
        ready = tt;
        made = now ∙ sym said.1;
        compiled = subst (λ (q : PolicyState). ∥ AreCompiled tables q ∥₁) (sym said.1) compiled;
        sizes = subst (λ (q : PolicyState). HasSizes q tables) (sym said.1) sizes;
      },
    )

-- what follows from a right answer, where there is one
pub if_ok : {A E : Type 0} (P Q : A → Type 0) (r : Result A E) → ((x : A) → P x → Q x) → IfOk r P → IfOk r Q
if_ok P Q (Ok x) f h = f x h
if_ok P Q (Err e) f h = tt

pub always : {A E : Type 0} (P : Type 0) (r : Result A E) → P → IfOk r (λ _. P)
always P (Ok x) h = h
always P (Err e) h = tt

-- where nothing is tried, each change leaves nothing tried
pub untried_change : (change : Change) (policy : Tried) → policy.tried ≡ policy.now → IsGivenUp change policy
untried_change Nothing policy e = e
untried_change (Replace commit) policy e = e
untried_change (Pins change) policy e = e
untried_change (CommandChange rows command) policy e = tt

pub untried_answer : {E : Type 0} (result : Result (Reply × Change) E) (policy : Tried) → policy.tried ≡ policy.now
    → MatchResult result (λ r. IsGivenUp r.1 policy) (λ _. policy.tried ≡ policy.now)
untried_answer (Ok r) policy e = untried_change r.1 policy e
untried_answer (Err x) policy e = e

-- a change that is in place leaves nothing tried
pub settled_untried : (policy new : Tried) (change : Change) → new.now ≡ policy_made policy change → new.tried ≡ policy.tried → IsGivenUp change policy → new.tried ≡ new.now
settled_untried policy new Nothing now tried given = tried ∙ given ∙ sym now
settled_untried policy new (Replace commit) now tried given = tried ∙ given ∙ sym now
settled_untried policy new (Pins change) now tried given = tried ∙ given ∙ sym now
settled_untried policy new (CommandChange rows command) now tried given = tried ∙ sym now
