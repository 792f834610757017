-- What is done for words, and what is said of those that ask for nothing.
use Rattle.std.proofs.Common.{◌≡◌, ◌≤◌, ℕ, List, Option, Some, inl, inr, arith}
use Rattle.std.specs.Prelude.{◌⊎◌, ◌≢◌, drop, Result, Ok, Err, MatchResult}
use Rattle.std.specs.declared.io.ErrorKind.{ErrorKind}
use Rattle.program_parts.specs.Streams.{Streams}
use Rattle.command_line.specs.CommandLine.{AppendsPrefix, AreWrong, IsFault, early_line, status_of}
use Rattle.command_line.specs.Forms.{Form, Run, asked}
use Rattle.command_line.specs.Forms as forms
use Rattle.command_line.specs.declared.form.OptionFault.{OptionFault}
use Rattle.command_line.specs.declared.form.OptionFault.TheVariants as faults
use Rattle.command_line.specs.declared.form.UsageFault.TheVariants as usage
use Rattle.worker_runs.specs.Files.{IsOfPaths}
use Rattle.worker_runs.specs.declared.orders.Orders.{Orders}
use Rattle.dispatch.specs.Performed.{AreUnread, IsDone, IsPerformed, IsProgram, IsSaid, NotesAsAsked, ReadsAsAsked, Rest}

-- what is asked for is done
pub done : (words : List (List ℕ)) (form : Form) (left : Option (List ℕ)) (s : Streams) (status : ℕ) → asked (drop 1 words) ≡ Some form → IsDone form left s status → IsPerformed words left s status
done words form left s status e d = inl (form, e, d)

-- a run that is asked for is done
pub ran : (words : List (List ℕ)) (run : Run) (orders : Orders) (left : Option (List ℕ)) (s : Streams) (status : ℕ) → asked (drop 1 words) ≡ Some (forms.run run) → orders.workers ≡ run.workers → orders.rounds ≡ run.rounds → orders.seed ≡ run.seed → orders.progress ≡ run.progress
    → IsOfPaths run.instance run.script run.live orders s status → IsPerformed words left s status
ran words run orders left s status e w r d p h = inl (forms.run run, e, (orders, record { workers = w; rounds = r; seed = d; progress = p }, h))

abbrev IsZero : ℕ → Type 0
IsZero n = n ≡ 0

some : (n : ℕ) → 1 ≤ n → IsZero n → ⊥
some n h = λ e. omega (arith, h, e)

wrong : (words : List (List ℕ)) (s : Streams) (status : ℕ) → AreWrong words → (status ≡ 2) ⊎ ((status ≡ 3) × IsZero 2) → ((IsZero 2 → ⊥) → s.now ≡ s.was) → IsSaid words s status
wrong words s status f t u = elim t [
  | inl e ↦ inr (f, e, u (some 2 (omega arith)))
  | inr e ↦ absurd (some 2 (omega arith) e.1)
]

pub said : (words : List (List ℕ)) (left : Option (List ℕ)) (fault : OptionFault) (s : Streams) (status : ℕ) → IsFault words fault → (status ≡ status_of fault) ⊎ ((status ≡ 3) × (status_of fault ≡ 0))
    → (status_of fault ≢ 0 → s.now ≡ s.was) → (status ≡ 0 → s.reports_are ≡ s.reports_were) → (status ≡ 3 → AppendsPrefix s.reports_were s.reports_are (early_line fault)) → IsPerformed words left s status
said words left (faults.Usage (usage.Words error)) s status f t u k r = inr (inl (wrong words s status (inl (_, f.0, f.1)) t u))
said words left (faults.Usage (usage.Number fault)) s status f t u k r = inr (inl (wrong words s status (inr (fault, f)) t u))
said words left (faults.Help error) s status f t u k r = inr (inl (inl ((_, f.0, f.1), elim t [ inl e ↦ inl (e, k e) | inr e ↦ inr (e.0, r e.0) ])))
said words left faults.NoMemory s status f t u k r =
    let early : status ≡ 3 = elim t [ inl e ↦ e | inr e ↦ e.0 ] in
    inr (inr (u (some 3 (omega arith)), early, r early))

-- what is done for words that were read, or where there is an error in their place
pub program : {A E : Type 0} (words : Result A E) (texts : A → List (List ℕ)) (kind : E → ErrorKind) (rest : Rest) (s : Streams) (status : ℕ)
    → MatchResult words (λ found. IsPerformed (texts found) rest.left_old s status) (λ error. AreUnread (kind error) s status)
    → MatchResult words (λ found. ReadsAsAsked (texts found) rest.left_old rest.left_new) (λ error. rest.left_new ≡ rest.left_old)
    → MatchResult words (λ found. NotesAsAsked (texts found) rest.notes_were rest.notes_are) (λ error. rest.notes_are ≡ rest.notes_were)
    → IsProgram rest s status
program (Ok found) texts kind rest s status h i n = inl (texts found, h, i, n)
program (Err error) texts kind rest s status h i n = inr (kind error, h, i, n)
