-- What a script has come to, line by line.
use Rattle.std.specs.Prelude.{◌≡◌, ℕ, List, ◌++◌, length, Option, Some, count_by}
use Rattle.std.specs.List.{flat_map, AllByRecursion}
use Rattle.std.specs.Io.KnownBytes.{Appends, Consumes}
use Rattle.board_lines.specs.Replies.{ended}
use Rattle.board_lines.specs.declared.command.Command.{Command}
use Rattle.line_engine.specs.Answers.{Answer}
use Rattle.line_engine.specs.Outcomes.{Outcome, written, has_reply, is_refusal}
use Rattle.line_engine.specs.Running.{Runs, IsLine}
use Rattle.line_engine.specs.WholeRuns.{IsAnswered, IsStopped}
use Rattle.line_engine.specs.declared.run_fault.Counts.{Counts}
use Rattle.line_engine.specs.declared.run_fault.RunFault.{RunFault}
use Rattle.line_engine.specs.declared.run_fault.RunFault.TheVariants as runs

-- what is left of a script and what was written, before and after
pub record Flow : Type 0 where
  pub left_old : Option (List ℕ)
  pub left_new : Option (List ℕ)
  pub was : Option (List ℕ)
  pub now : Option (List ℕ)

abbrev pub flow_of : Option (List ℕ) → Option (List ℕ) → Option (List ℕ) → Option (List ℕ) → Flow
flow_of left_old left_new was now = record { left_old = left_old; left_new = left_new; was = was; now = now }

-- so many lines were answered, and of what was read some bytes are held
pub record Fed {S : Type 0} (step : S → Command → Answer → S → Type 0) (old now : S) (f : Flow) (held : List ℕ) (seen : ℕ) (counts : Counts) : Type 0 where
  pub lines : List (List ℕ)
  pub outcomes : List Outcome
  pub each : AllByRecursion IsLine lines
  pub run : Runs step old lines outcomes now
  pub given : Consumes f.left_old f.left_new (flat_map ended lines ++ held)
  pub text : Appends f.was f.now (written outcomes)
  pub seen_is : seen ≡ length lines
  pub answers_is : counts.lines ≡ count_by has_reply outcomes
  pub refusals_is : counts.refused ≡ count_by is_refusal outcomes

-- all of a text was answered
abbrev pub IsTextAnswered : {S : Type 0} → (S → Command → Answer → S → Type 0) → S → S → List ℕ → Option (List ℕ) → Option (List ℕ) → Counts → Type 0
IsTextAnswered step old new text was now counts = (left : Option (List ℕ)) × IsAnswered step old new (Some text) left was now counts.lines counts.refused

-- the fault of a run over one line, as that of the whole run: a line that is held can be read to its end
abbrev pub as_whole : RunFault → RunFault
as_whole runs.Read = runs.NoMemory
as_whole fault = fault

-- a run over a text ended early
abbrev pub IsTextStopped : {S : Type 0} → (S → Command → Answer → S → Type 0) → (S → Command → S → Type 0) → RunFault → S → S → List ℕ → Option (List ℕ) → Option (List ℕ) → Type 0
IsTextStopped step refuses whole old new text was now = (fault : RunFault) × (whole ≡ as_whole fault)
    × (left : Option (List ℕ)) × IsStopped step refuses fault old new (Some text) left was now
