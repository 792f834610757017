-- What the program does by the words of its command line: what they ask for, which stream is which, and which status it ends with. Which file
-- is which is not said: what is read of a file may be any bytes, and only the line on one that cannot be read has its path.
use Rattle.std.specs.Prelude.{◌≡◌, ◌≢◌, ℕ, ◌⊎◌, List, drop, Option, Some, IfSome, true}
use Rattle.std.specs.declared.io.ErrorKind.{ErrorKind}
use Rattle.std.specs.declared.io.ErrorKind.TheVariants.{OutOfMemory}
use Rattle.solomon_reader.specs.Reading.{read_of}
use Rattle.line_engine.specs.Running.{AppendsPrefix}
use Rattle.line_engine.specs.declared.run_fault.RunFault.TheVariants as runs
use Rattle.plan_picture.specs.Texts.{svg_text}
use Rattle.plan_sums.specs.Texts.{sums_text}
use Rattle.plan_program.specs.Views.{IsViewOfFiles}
use Rattle.program_parts.specs.Head.{Halves}
use Rattle.program_parts.specs.Report.{IsChecked}
use Rattle.program_parts.specs.Streams.{Streams, stop_line}
use Rattle.program_parts.specs.declared.stop.Stop.TheVariants as stops
use Rattle.board_program.specs.Joined.{IsJoined, IsOfHalves}
use Rattle.command_line.specs.CommandLine.{AreWrong, AskForHelp}
use Rattle.command_line.specs.Forms.{Form, Run, asked}
use Rattle.command_line.specs.Forms as forms
use Rattle.worker_runs.specs.Files.{IsOfPaths, IsUnreadFile}
use Rattle.worker_runs.specs.declared.orders.Orders.{Orders}

-- an input of all that was asked for, whose bytes may be known
abbrev pub IsOfInput : Option (List ℕ) → Streams → ℕ → Type 0
IsOfInput left s status = IfSome left (λ bytes. IsJoined bytes s status) × ((h : Halves) × IsOfHalves h s status)

-- the file cannot be read, or some bytes of it are checked
abbrev pub IsCheckOfFile : List ℕ → Streams → ℕ → Type 0
IsCheckOfFile path s status = IsUnreadFile path s status ⊎ ((bytes : List ℕ) × IsChecked (read_of bytes) s status)

-- the workers of a run are to do what the words say
pub record AreOrdersOf (run : Run) (orders : Orders) : Type 0 where
  pub workers : orders.workers ≡ run.workers
  pub rounds : orders.rounds ≡ run.rounds
  pub seed : orders.seed ≡ run.seed
  pub progress : orders.progress ≡ run.progress

-- what is asked for is done, on standard input and output
abbrev pub IsDone : Form → Option (List ℕ) → Streams → ℕ → Type 0
IsDone forms.joined left s status = IsOfInput left s status
IsDone (forms.check path) left s status = IsCheckOfFile path s status
IsDone (forms.run run) left s status = (orders : Orders) × AreOrdersOf run orders × IsOfPaths run.instance run.script run.live orders s status
IsDone (forms.draw instance rows) left s status = IsViewOfFiles svg_text instance rows s status
IsDone (forms.sums instance rows) left s status = IsViewOfFiles sums_text instance rows s status

-- Nothing is reported where help or the version is written; where it cannot be, that is.
abbrev pub IsAnswered : Streams → ℕ → Type 0
IsAnswered s status = ((status ≡ 0) × (s.reports_are ≡ s.reports_were))
    ⊎ ((status ≡ 3) × AppendsPrefix s.reports_were s.reports_are (stop_line (stops.Run runs.Write)))

-- Nothing can be done: the parse may fail with help or the version; or otherwise, with nothing written.
abbrev pub IsSaid : List (List ℕ) → Streams → ℕ → Type 0
IsSaid words s status = (AskForHelp words × IsAnswered s status) ⊎ (AreWrong words × (status ≡ 2) × (s.now ≡ s.was))

-- Memory ran out while the words were read, which is reported, and nothing is written.
abbrev pub IsOutOfMemory : Streams → ℕ → Type 0
IsOutOfMemory s status = (s.now ≡ s.was) × (status ≡ 3) × AppendsPrefix s.reports_were s.reports_are (stop_line stops.Open)

-- The words, of which the first is the program's own name, ask for something, which is done; or they ask for nothing, which is said; or
-- memory ran out.
abbrev pub IsPerformed : List (List ℕ) → Option (List ℕ) → Streams → ℕ → Type 0
IsPerformed words left s status = ((form : Form) × (asked (drop 1 words) ≡ Some form) × IsDone form left s status)
    ⊎ (IsSaid words s status ⊎ IsOutOfMemory s status)

-- A run is asked for that says what refusals mean.
abbrev pub AskForNotes : List (List ℕ) → Type 0
AskForNotes words = (run : Run) × (asked (drop 1 words) ≡ Some (forms.run run)) × (run.explain ≡ true)

-- Standard input is read only where no command is named.
abbrev pub ReadsAsAsked : List (List ℕ) → Option (List ℕ) → Option (List ℕ) → Type 0
ReadsAsAsked words was now = (now ≡ was) ⊎ (asked (drop 1 words) ≡ Some forms.joined)

-- Notes are written only where they are asked for.
abbrev pub NotesAsAsked : List (List ℕ) → Option (List ℕ) → Option (List ℕ) → Type 0
NotesAsAsked words were are = (are ≡ were) ⊎ AskForNotes words

-- The words could not be read, and nothing is written: memory ran out, which is reported, with status 3; or a word is not UTF-8, with status 2.
abbrev pub AreUnread : ErrorKind → Streams → ℕ → Type 0
AreUnread kind s status = (s.now ≡ s.was)
    × (kind ≡ OutOfMemory → (status ≡ 3) × AppendsPrefix s.reports_were s.reports_are (stop_line stops.Open)) × (kind ≢ OutOfMemory → status ≡ 2)

-- what is left of standard input, and the notes, before and after, where they are known
pub record Rest : Type 0 where
  pub left_old : Option (List ℕ)
  pub left_new : Option (List ℕ)
  pub notes_were : Option (List ℕ)
  pub notes_are : Option (List ℕ)

abbrev pub rest_of : Option (List ℕ) → Option (List ℕ) → Option (List ℕ) → Option (List ℕ) → Rest
rest_of left_old left_new notes_were notes_are = record { left_old = left_old; left_new = left_new; notes_were = notes_were; notes_are = notes_are }

-- All of the program: it has words, and does what they ask for, and no more; or they could not be read.
abbrev pub IsProgram : Rest → Streams → ℕ → Type 0
IsProgram rest s status = ((words : List (List ℕ)) × IsPerformed words rest.left_old s status
    × ReadsAsAsked words rest.left_old rest.left_new × NotesAsAsked words rest.notes_were rest.notes_are)
    ⊎ ((kind : ErrorKind) × AreUnread kind s status × (rest.left_new ≡ rest.left_old) × (rest.notes_are ≡ rest.notes_were))
