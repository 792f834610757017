-- What the program writes, and the status that it ends with, by the bytes that it reads.
use Rattle.std.specs.Prelude.{◌≡◌, ℕ, ◌==◌, ◌≤◌, ◌⊎◌, List, [], ◌++◌, length, count_by, Option, Result, Ok, Err, if◌then◌else◌}
use Rattle.std.specs.List.{flat_map}
use Rattle.std.specs.Io.KnownBytes.{Appends, Keeps}
use Rattle.limits.specs.declared.TheConstants.{LARGEST_FILE, MOST_LINES}
use Rattle.solomon_reader.specs.Checks.{Fault, fault}
use Rattle.solomon_reader.specs.Instances.{Plain}
use Rattle.solomon_reader.specs.Reading.{read_of}
use Rattle.board_lines.specs.Replies.{ended}
use Rattle.line_engine.specs.Outcomes.{Outcome, written, is_refusal}
use Rattle.line_engine.specs.WholeRuns.{AreOutcomes, IsAnswered, IsStopped}
use Rattle.board_text.specs.BoardSteps.{DeskState, IsBoardStep, LacksMemory}
use Rattle.line_engine.specs.Running.{Reaches, IsTooLong}
use Rattle.line_engine.specs.TextLines.{lines_of}
use Rattle.line_engine.specs.declared.run_fault.Counts.{Counts}
use Rattle.line_engine.specs.declared.run_fault.RunFault.{RunFault}
use Rattle.line_engine.specs.declared.run_fault.RunFault.TheVariants as runs
use Rattle.program_parts.specs.Head.{Halves, halves}
use Rattle.program_parts.specs.Network.{Sites}
use Rattle.board_program.specs.Standard.{opened}
use Rattle.program_parts.specs.Standard.{AreSitesOf}
use Rattle.program_parts.specs.Stops.{IsUnread}
use Rattle.program_parts.specs.Streams.{Streams, IsReported, IsUnreadable}
use Rattle.program_parts.specs.declared.stop.Stop.{Stop}
use Rattle.program_parts.specs.declared.stop.Stop.TheVariants as stops

-- ---- a board over a reader and a writer

-- the whole script was answered on the board of the instance
pub record IsRun (i : Plain) (left_old left_new was now : Option (List ℕ)) (counts : Counts) : Type 0 where
  pub sites : Sites
  pub of : AreSitesOf i sites
  pub new : DeskState
  pub answered : IsAnswered IsBoardStep (opened sites) new left_old left_new was now counts.lines counts.refused

-- the board was opened, and the run on it ended early
pub record IsCutOff (i : Plain) (left_old left_new was now : Option (List ℕ)) (fault : RunFault) : Type 0 where
  pub sites : Sites
  pub of : AreSitesOf i sites
  pub new : DeskState
  pub stopped : IsStopped IsBoardStep LacksMemory fault (opened sites) new left_old left_new was now

-- Why no more came of a board: it was not opened, and nothing was read or written, or the run on it ended early.
abbrev pub IsUnfinished : Plain → Option (List ℕ) → Option (List ℕ) → Option (List ℕ) → Option (List ℕ) → Stop → Type 0
IsUnfinished i left_old left_new was now (stops.Instance kind line) = ⊥
IsUnfinished i left_old left_new was now stops.Open = Keeps left_old left_new × Keeps was now
IsUnfinished i left_old left_new was now (stops.Run fault) = IsCutOff i left_old left_new was now fault

-- ---- all bytes

-- The instance's board gives these outcomes to the lines of a script, one after another.
pub record Replies (i : Plain) (script : List ℕ) (outcomes : List Outcome) : Type 0 where
  pub sites : Sites
  pub of : AreSitesOf i sites
  pub new : DeskState
  pub run : AreOutcomes IsBoardStep (opened sites) script outcomes new

-- 1 where a line counted as refused
abbrev pub status_of : List Outcome → ℕ
status_of outcomes = if count_by is_refusal outcomes == 0 then 0 else 1

-- each line of the script was answered, of at most 4,294,967,296
abbrev pub IsDone : Plain → List ℕ → Option (List ℕ) → Option (List ℕ) → ℕ → Type 0
IsDone i script was now status =
    (outcomes : List Outcome) × Replies i script outcomes × Appends was now (written outcomes) × (status ≡ status_of outcomes) × (length (lines_of script) ≤ MOST_LINES)

-- What a fault says of what comes next: at LongLine, a line that is too long; at any other, nothing.
abbrev pub IsCause : RunFault → List ℕ → Type 0
IsCause runs.LongLine more = IsTooLong more
IsCause _ more = Unit {0}

-- a prefix of the script, of whole lines, was answered, and its replies were written, or a prefix of them where the writer failed
abbrev pub IsBrokenOff : RunFault → Plain → List ℕ → Option (List ℕ) → Option (List ℕ) → Type 0
IsBrokenOff fault i script was now = (used : List ℕ) × (more : List ℕ) × (script ≡ used ++ more)
    × (((lines : List (List ℕ)) × (used ≡ flat_map ended lines)) ⊎ (more ≡ []))
    × IsCause fault more × (outcomes : List Outcome) × Replies i used outcomes × Reaches fault was now (written outcomes)

-- ---- all bytes

-- Why no more came of the bytes of an instance and a script, with what was written: they are no instance, or memory ran out before the
-- script, and nothing was; or the run on the instance's board ended early.
abbrev pub IsShort : Result Plain Fault → List ℕ → Option (List ℕ) → Option (List ℕ) → Stop → Type 0
IsShort read script was now (stops.Instance kind line) = (read ≡ fault kind line) × Keeps was now
IsShort read script was now stops.Open = Keeps was now
IsShort read script was now (stops.Run f) = (i : Plain) × (read ≡ Ok i) × IsBrokenOff f i script was now

-- By what the instance's bytes say: the replies to the script are written, nothing is reported, and the status is 0 or 1; or no more came, which
-- is reported, and it is 3.
abbrev pub Says : Result Plain Fault → List ℕ → Streams → ℕ → Type 0
Says read script streams status = ((i : Plain) × (read ≡ Ok i) × IsDone i script streams.was streams.now status × Keeps streams.reports_were streams.reports_are)
    ⊎ ((stop : Stop) × IsShort read script streams.was streams.now stop × IsReported stop streams.reports_were streams.reports_are status)

-- an instance and a script, each in bytes of its own
abbrev pub IsScripted : List ℕ → List ℕ → Streams → ℕ → Type 0
IsScripted instance script streams status = Says (read_of instance) script streams status

-- The instance before the mark, which is not too long, and the script behind it. Or a read failed before the mark, or memory ran out, or more
-- bytes than the limit came: nothing is written, and that is reported.
abbrev pub IsOfHalves : Halves → Streams → ℕ → Type 0
IsOfHalves h streams status = ((length h.instance ≤ LARGEST_FILE) × IsScripted h.instance h.script streams status)
    ⊎ ((stop : Stop) × IsUnread stop × Keeps streams.was streams.now × IsReported stop streams.reports_were streams.reports_are status)

-- the same of all bytes of the input, cut at the mark
abbrev pub IsJoined : List ℕ → Streams → ℕ → Type 0
IsJoined bytes streams status = IsOfHalves (halves bytes) streams status

-- A file could not be read, which is reported, and nothing is written; or an instance and a script were, whatever their bytes are.
abbrev pub IsOfFiles : List ℕ → List ℕ → Streams → ℕ → Type 0
IsOfFiles instance_path script_path streams status =
    ((streams.now ≡ streams.was) × (IsUnreadable instance_path streams.reports_were streams.reports_are status ⊎ IsUnreadable script_path streams.reports_were streams.reports_are status))
    ⊎ ((instance : List ℕ) × (script : List ℕ) × IsScripted instance script streams status)

-- ---- a joined input, before what came of it is reported

-- it ended early: before the script, or at it
abbrev pub Ended : Halves → Option (List ℕ) → Option (List ℕ) → Stop → Type 0
Ended h was now stop = ((length h.instance ≤ LARGEST_FILE) × IsShort (read_of h.instance) h.script was now stop) ⊎ (IsUnread stop × Keeps was now)

-- the same of a run that was not ended early
abbrev pub IsEnd : Halves → Option (List ℕ) → Option (List ℕ) → Result Counts Stop → Type 0
IsEnd h was now (Ok counts) = (i : Plain) × (read_of h.instance ≡ Ok i) × (length h.instance ≤ LARGEST_FILE) × IsDone i h.script was now (if counts.refused == 0 then 0 else 1)
IsEnd h was now (Err stop) = Ended h was now stop
