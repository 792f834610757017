-- Questions that are not answered.
use Rattle.std.proofs.Common.{◌≡◌, ◌++◌, ◌∙◌, true, false, ℕ, List, Option, Some, None, Result, Ok, Err, IfOk, OnOk, refl}
use Rattle.std.specs.Prelude.{IfErr, is_ok}
use Rattle.board_rules.specs.declared.call.Entry.{Entry}
use Rattle.board_rules.specs.declared.reply.AskFault.{AskFault}
use Rattle.board_rules.specs.declared.reply.AskFault.TheVariants.{NoSession, NoAccess, NoUser, NoRole, NotThere, NoMemory}
use Rattle.board_rules.specs.Good.{state_of}
use Rattle.board_rules.specs.Questions.{MayAsk, audit_fault}
use Rattle.board_lines.specs.Listings.{audit_text}
use Rattle.board_lines.specs.declared.command.Command.{Command}
use Rattle.board_lines.specs.declared.command.Command.TheVariants as commands
use Rattle.line_engine.specs.Answers.{Refused, Audited}
use Rattle.line_engine.specs.Fronts.{MayRefuse}
use Rattle.board_text.specs.BoardSteps.{DeskState, IsBoardStep, LacksMemory}

-- a fault that is due is a step, and running out of memory changes nothing
pub refused : (state : DeskState) (question : Command) (expected : Option AskFault) (fault : AskFault)
    → MayAsk expected fault → LacksMemory state question state → ((due : AskFault) → expected ≡ Some due → IsBoardStep state question (Refused due) state)
    → MayRefuse IsBoardStep LacksMemory state question fault state
refused state question expected NoSession may same steps = steps NoSession may
refused state question expected NoAccess may same steps = steps NoAccess may
refused state question expected NoUser may same steps = steps NoUser may
refused state question expected NoRole may same steps = steps NoRole may
refused state question expected NotThere may same steps = steps NotThere may
refused state question expected NoMemory may same steps = same

-- a fault that is due may be answered
pub due_may : (expected : Option AskFault) (fault : AskFault) → expected ≡ Some fault → MayAsk expected fault
due_may expected NoSession e = e
due_may expected NoAccess e = e
due_may expected NoUser e = e
due_may expected NoRole e = e
due_may expected NotThere e = e
due_may expected NoMemory e = tt

-- what holds of an answer, where it also holds that the question was to be answered
pub both : {A E X : Type 0} (P Q : A → Type 0) (r : Result A E) → OnOk r X → IfOk r P → ((a : A) → X → P a → Q a) → IfOk r Q
both P Q (Ok a) x p f = f a x p
both P Q (Err e) x p f = tt

-- the journal's text was appended to a text
pub audited : {E : Type 0} (state : DeskState) (session : ℕ) (entries : List Entry) (old new put : List ℕ) (r : Result (Unit {0}) E)
    → audit_fault (state_of state.history) session ≡ None → entries ≡ state.history.entries → old ++ put ≡ old ++ audit_text entries → OnOk r (new ≡ old ++ put)
    → OnOk r ((es : List Entry) × IsBoardStep state (commands.Audit session) (Audited es) state × (new ≡ old ++ audit_text es))
audited state session entries old new put (Ok u) asked are p told = (entries, ((asked, are), refl), told ∙ p)
audited state session entries old new put (Err e) asked are p told = tt

-- a result is only one of the two
pub not_ok : {A E : Type 0} (r : Result A E) (P : A → Type 0) → false ≡ is_ok r → IfOk r P
not_ok (Ok a) P e = absurd (cc)
not_ok (Err e) P f = tt

pub not_err : {A E : Type 0} (r : Result A E) (P : E → Type 0) → true ≡ is_ok r → IfErr r P
not_err (Ok a) P e = tt
not_err (Err e) P f = absurd (cc)
