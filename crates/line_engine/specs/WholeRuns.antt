-- The result of a whole run of lines over a front, by the bytes that were read, where step says which answers a command may have, and
-- refuses what running out of memory at a command may leave.
use Rattle.std.specs.Prelude.{◌≡◌, ℕ, ◌≤◌, ◌⊎◌, List, [], ◌++◌, length, Option, count_by}
use Rattle.std.specs.List.{flat_map, AllByRecursion}
use Rattle.std.specs.Io.KnownBytes.{Appends, Consumes, IsAtEnd}
use Rattle.limits.specs.declared.TheConstants.{MOST_LINES}
use Rattle.board_lines.specs.Reading.{read_of}
use Rattle.board_lines.specs.Replies.{ended}
use Rattle.board_lines.specs.declared.command.Command.{Command}
use Rattle.line_engine.specs.Answers.{Answer}
use Rattle.line_engine.specs.Outcomes.{Outcome, written, has_reply, is_refusal}
use Rattle.line_engine.specs.Leaving.{Leaves}
use Rattle.line_engine.specs.Running.{Runs, Reaches, IsLine, IsTooLong, NextLine, body}
use Rattle.line_engine.specs.TextLines.{lines_of}
use Rattle.line_engine.specs.declared.run_fault.RunFault.{RunFault}
use Rattle.line_engine.specs.declared.run_fault.RunFault.TheVariants as runs

-- The lines of a text, each of at most 4,096 bytes, have these outcomes at a front, one after another.
pub record AreOutcomes {S : Type 0} (step : S → Command → Answer → S → Type 0) (old : S) (text : List ℕ) (outcomes : List Outcome) (new : S) : Type 0 where
  pub short : AllByRecursion IsLine (lines_of text)
  pub run : Runs step old (lines_of text) outcomes new

-- All that the reader had was answered, at most 4,294,967,296 lines, and the answers' texts were written.
pub record IsAnswered {S : Type 0} (step : S → Command → Answer → S → Type 0) (old new : S) (left_old left_new was now : Option (List ℕ)) (answers refusals : ℕ) : Type 0 where
  pub bytes : List ℕ
  pub given : Consumes left_old left_new bytes
  pub at_end : IsAtEnd left_new
  pub few : length (lines_of bytes) ≤ MOST_LINES
  pub outcomes : List Outcome
  pub run : AreOutcomes step old bytes outcomes new
  pub text : Appends was now (written outcomes)
  pub answered : answers ≡ count_by has_reply outcomes
  pub refused : refusals ≡ count_by is_refusal outcomes

-- the bytes are lines with their ends, or all that there was
abbrev pub AreWholeLines : List ℕ → List ℕ → Option (List ℕ) → Type 0
AreWholeLines used more left = ((lines : List (List ℕ)) × (used ≡ flat_map ended lines)) ⊎ ((more ≡ []) × IsAtEnd left)

-- the line that comes next: one with its line end, or the last, at the end of all bytes
abbrev pub ComesNext : List ℕ → Option (List ℕ) → List ℕ → Type 0
ComesNext more left line = NextLine more line ⊎ ((more ≡ line) × IsLine line × IsAtEnd left)

-- the front stands where the lines left it, or where the line that comes next leaves it
abbrev pub IsNear : {S : Type 0} → (S → Command → Answer → S → Type 0) → (S → Command → S → Type 0) → S → S → List ℕ → Option (List ℕ) → Type 0
IsNear step refuses mid new more left = (new ≡ mid) ⊎ ((line : List ℕ) × ComesNext more left line × Leaves step refuses mid (read_of (body line)) new)

-- as many lines as a run may have
abbrev pub AllLines : List ℕ → Type 0
AllLines used = length (lines_of used) ≡ MOST_LINES

-- Why a run ended after the lines of used, and where the front then stands. Either a read failed, and what was read of the next line has no
-- end and is not too long, or no more lines are seen; or the next line is too long; or memory ran out or a write failed, and the next line
-- may have been answered.
abbrev pub EndsAt : {S : Type 0} → (S → Command → Answer → S → Type 0) → (S → Command → S → Type 0) → RunFault → S → S → List ℕ → List ℕ → Option (List ℕ) → Type 0
EndsAt step refuses runs.Read mid new used more left = (new ≡ mid) × (IsLine more ⊎ AllLines used)
EndsAt step refuses runs.LongLine mid new used more left = (new ≡ mid) × IsTooLong more
EndsAt step refuses runs.NoMemory mid new used more left = IsNear step refuses mid new more left
EndsAt step refuses runs.Write mid new used more left = IsNear step refuses mid new more left

-- A prefix of the bytes, of whole lines, was answered, and the answers' texts were written, or a prefix of them where the writer failed.
pub record IsStopped {S : Type 0} (step : S → Command → Answer → S → Type 0) (refuses : S → Command → S → Type 0) (fault : RunFault) (old new : S) (left_old left_new was now : Option (List ℕ)) : Type 0 where
  pub used : List ℕ
  pub more : List ℕ
  pub given : Consumes left_old left_new (used ++ more)
  pub whole : AreWholeLines used more left_new
  pub outcomes : List Outcome
  pub mid : S
  pub run : AreOutcomes step old used outcomes mid
  pub end : EndsAt step refuses fault mid new used more left_new
  pub text : Reaches fault was now (written outcomes)
