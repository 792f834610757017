-- What is written for the lines that a reader gives.
use Rattle.std.specs.Prelude.{◌≡◌, ◌≢◌, ℕ, ◌+◌, ◌<◌, ◌≤◌, ◌⊎◌, List, [], ◌∷◌, ◌++◌, length, Option, All, count_by, if◌then◌else◌}
use Rattle.std.specs.List.{flat_map, AllByRecursion}
use Rattle.std.specs.Io.BufRead.{strip_last}
use Rattle.std.specs.Io.KnownBytes.{Appends}
use Rattle.limits.specs.declared.TheConstants.{LONGEST_LINE, MOST_LINES}
use Rattle.board_lines.specs.Reading.{read_of}
use Rattle.board_lines.specs.Replies.{ended}
use Rattle.line_engine.specs.Outcomes.{outcome_text, written, has_reply, is_refusal}
use Rattle.line_engine.specs.Leaving.{Gives, Leaves, Drops}
use Rattle.board_lines.specs.declared.command.Command.{Command}
use Rattle.line_engine.specs.Answers.{Answer}
use Rattle.line_engine.specs.Outcomes.{Outcome}
use Rattle.line_engine.specs.declared.run_fault.RunFault.{RunFault}
use Rattle.line_engine.specs.declared.run_fault.RunFault.TheVariants as runs

-- ---- lines

abbrev pub HasNoEnd : List ℕ → Type 0
HasNoEnd line = All (λ b. b ≢ 10) line

-- a line, or the part of one that has been read
pub record IsLine (line : List ℕ) : Type 0 where
  pub plain : HasNoEnd line
  pub short : length line ≤ LONGEST_LINE

-- the bytes are these lines, each with its line end, and then what has been read of the next line
pub record Cut (bytes : List ℕ) (lines : List (List ℕ)) (rest : List ℕ) : Type 0 where
  pub whole : bytes ≡ flat_map ended lines ++ rest
  pub each : AllByRecursion IsLine lines
  pub partial : IsLine rest

-- a line without the one carriage return at its end
abbrev pub body : List ℕ → List ℕ
body line = strip_last 13 line

-- ---- runs, where step says how a front may answer a command

-- From old, the lines have these outcomes, one after another, and leave new.
abbrev pub Runs : {S : Type 0} → (S → Command → Answer → S → Type 0) → S → List (List ℕ) → List Outcome → S → Type 0
Runs step old [] [] new = new ≡ old
Runs {S} step old (line ∷ lines) (outcome ∷ outcomes) new = (mid : S) × Gives step old (read_of (body line)) outcome mid × Runs step mid lines outcomes new
Runs step old [] (outcome ∷ outcomes) new = ⊥
Runs step old (line ∷ lines) [] new = ⊥

-- known bytes grow by a prefix of bs
abbrev pub AppendsPrefix : Option (List ℕ) → Option (List ℕ) → List ℕ → Type 0
AppendsPrefix old new bs = (front : List ℕ) × (more : List ℕ) × (bs ≡ front ++ more) × Appends old new front

-- ---- what a run has done so far; out are the replies, written or not

-- the replies that are held grow by some
abbrev pub Grows : List ℕ → List ℕ → (List ℕ → Type 0) → Type 0
Grows old new P = (out : List ℕ) × (new ≡ old ++ out) × P out

-- Since old the bytes were taken: their lines were answered, and rest is what has been read of the next line.
pub record Progress {S : Type 0} (step : S → Command → Answer → S → Type 0) (old new : S) (out bytes rest : List ℕ) (seen_old seen_new lines_old lines_new refused_old refused_new : ℕ) : Type 0 where
  pub lines : List (List ℕ)
  pub outcomes : List Outcome
  pub cut : Cut bytes lines rest
  pub run : Runs step old lines outcomes new
  pub text : out ≡ written outcomes
  pub seen : seen_new ≡ seen_old + length lines
  pub answers : lines_new ≡ lines_old + count_by has_reply outcomes
  pub refusals : refused_new ≡ refused_old + count_by is_refusal outcomes

-- the line that comes next, with its line end
abbrev pub NextLine : List ℕ → List ℕ → Type 0
NextLine left line = IsLine line × (more : List ℕ) × (left ≡ ended line ++ more)

-- more bytes than a line may have come before the next line end
abbrev pub IsTooLong : List ℕ → Type 0
IsTooLong left = (long : List ℕ) × (more : List ℕ) × (left ≡ long ++ more) × HasNoEnd long × (LONGEST_LINE < length long)

-- Where the front stands, which answered the lines before and left mid: there, or where the next line leaves it.
abbrev pub StandsAt : {S : Type 0} → (S → Command → Answer → S → Type 0) → (S → Command → S → Type 0) → S → S → List ℕ → Type 0
StandsAt step refuses mid new left = (new ≡ mid) ⊎ ((line : List ℕ) × NextLine left line × Leaves step refuses mid (read_of (body line)) new)

-- how a run ended, with this many lines seen, after the lines that it answered, where left is what comes next
abbrev pub Ends : {S : Type 0} → (S → Command → Answer → S → Type 0) → (S → Command → S → Type 0) → RunFault → S → S → ℕ → List ℕ → Type 0
Ends step refuses runs.Read mid new seen left = (new ≡ mid) × (seen ≡ MOST_LINES)
Ends step refuses runs.LongLine mid new seen left = (new ≡ mid) × IsTooLong left
Ends step refuses runs.NoMemory mid new seen left = StandsAt step refuses mid new left
Ends step refuses runs.Write mid new seen left = StandsAt step refuses mid new left

-- Since old the bytes were taken, and the fault came: all earlier lines were answered.
pub record Broken {S : Type 0} (step : S → Command → Answer → S → Type 0) (refuses : S → Command → S → Type 0) (fault : RunFault) (old new : S) (out : List ℕ) (seen_old : ℕ) (bytes : List ℕ) : Type 0 where
  pub lines : List (List ℕ)
  pub outcomes : List Outcome
  pub mid : S
  pub left : List ℕ
  pub whole : bytes ≡ flat_map ended lines ++ left
  pub each : AllByRecursion IsLine lines
  pub run : Runs step old lines outcomes mid
  pub text : out ≡ written outcomes
  pub end : Ends step refuses fault mid new (seen_old + length lines) left

-- a line was answered
pub record Served {S : Type 0} (step : S → Command → Answer → S → Type 0) (old new : S) (out line : List ℕ) (seen_old seen_new lines_old lines_new refused_old refused_new : ℕ) : Type 0 where
  pub outcome : Outcome
  pub gives : Gives step old (read_of (body line)) outcome new
  pub text : out ≡ outcome_text outcome
  pub seen : seen_new ≡ seen_old + 1
  pub answers : lines_new ≡ lines_old + (if has_reply outcome then 1 else 0)
  pub refusals : refused_new ≡ refused_old + (if is_refusal outcome then 1 else 0)

-- memory ran out at a line, and its reply is not held
abbrev pub ServeBroken : {S : Type 0} → (S → Command → Answer → S → Type 0) → (S → Command → S → Type 0) → RunFault → S → S → List ℕ → Type 0
ServeBroken step refuses runs.NoMemory old new line = Drops step refuses old (read_of (body line)) new
ServeBroken step refuses _ old new line = ⊥

-- A fault came at the last line, which has no line end, with this many lines seen before.
abbrev pub EndsLast : {S : Type 0} → (S → Command → Answer → S → Type 0) → (S → Command → S → Type 0) → RunFault → S → S → ℕ → List ℕ → Type 0
EndsLast step refuses runs.Read old new seen line = (new ≡ old) × (seen ≡ MOST_LINES)
EndsLast step refuses runs.LongLine old new seen line = ⊥
EndsLast step refuses runs.NoMemory old new seen line = ServeBroken step refuses runs.NoMemory old new line
EndsLast step refuses runs.Write old new seen line = ServeBroken step refuses runs.NoMemory old new line

-- A fault came within a prefix of the next bytes.
abbrev pub BrokenWithin : {S : Type 0} → (S → Command → Answer → S → Type 0) → (S → Command → S → Type 0) → RunFault → S → S → List ℕ → ℕ → List ℕ → List ℕ → Type 0
BrokenWithin step refuses fault old new out seen partial piece = (used : List ℕ) × (more : List ℕ) × (piece ≡ used ++ more) × Broken step refuses fault old new out seen (partial ++ used)

-- what follows the last line end is a line, unless it is empty
abbrev pub last_line : List ℕ → List (List ℕ)
last_line [] = []
last_line (b ∷ bytes) = (b ∷ bytes) ∷ []

-- the last line was answered
pub record Finished {S : Type 0} (step : S → Command → Answer → S → Type 0) (old new : S) (out rest : List ℕ) (lines_old lines_new refused_old refused_new : ℕ) : Type 0 where
  pub outcomes : List Outcome
  pub run : Runs step old (last_line rest) outcomes new
  pub text : out ≡ written outcomes
  pub answers : lines_new ≡ lines_old + count_by has_reply outcomes
  pub refusals : refused_new ≡ refused_old + count_by is_refusal outcomes

-- ---- what was written as a run ended

-- The replies were written in full, or only a prefix of them where the writer failed.
abbrev pub Reaches : RunFault → Option (List ℕ) → Option (List ℕ) → List ℕ → Type 0
Reaches runs.Write was now out = AppendsPrefix was now out
Reaches _ was now out = Appends was now out

-- the fault of a run, or that of its writer at the end
abbrev pub MayBeWrite : RunFault → RunFault → Type 0
MayBeWrite fault last = (last ≡ fault) ⊎ (last ≡ runs.Write)
