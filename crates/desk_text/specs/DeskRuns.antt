-- The result of a run of lines over a desk.
use Rattle.std.specs.Prelude.{◌≡◌, ◌==◌, ℕ, ◌+◌, ◌≤◌, List, [], ◌∷◌, ◌++◌, map, filter, Option, Result, Ok, Err}
use Rattle.board_rules.specs.declared.call.Call.{Call}
use Rattle.board_rules.specs.declared.call.Entry.{Entry}
use Rattle.board_rules.specs.declared.reply.Reply.{Reply}
use Rattle.board_rules.specs.History.{Opening, turns_of}
use Rattle.board_lines.specs.Reading.{read_of}
use Rattle.board_lines.specs.declared.command.Command.{Command}
use Rattle.board_lines.specs.declared.command.Command.TheVariants.{Submit}
use Rattle.board_lines.specs.declared.command.LineFault.{LineFault}
use Rattle.line_engine.specs.Answers.{Replied}
use Rattle.line_engine.specs.Outcomes.{Outcome, Said}
use Rattle.line_engine.specs.Running.{body}
use Rattle.line_engine.specs.TextLines.{lines_of}
use Rattle.line_engine.specs.WholeRuns.{IsAnswered, IsStopped}
use Rattle.line_engine.specs.declared.run_fault.RunFault.{RunFault}
use Rattle.board_lock.specs.Watches.{Watch}
use Rattle.board_lock.specs.DeskSteps.{IsDeskStep, DeskLacksMemory}
use Rattle.board_text.specs.BoardSteps.{DeskState}

-- ---- what a desk's list holds

-- the call of a line and its reply, if the call was journaled
abbrev pub journaled : Result Command LineFault → Outcome → List (Call × Reply)
journaled (Ok (Submit call)) (Said (Replied reply)) = (call, reply) ∷ []
journaled _ _ = []

-- those of some lines, in their order
abbrev pub all_journaled : List (List ℕ) → List Outcome → List (Call × Reply)
all_journaled (line ∷ lines) (outcome ∷ outcomes) = journaled (read_of (body line)) outcome ++ all_journaled lines outcomes
all_journaled _ _ = []

-- the calls and the replies of a desk's entries, in their order
abbrev pub held_by : ℕ → List Entry → List (Call × Reply)
held_by desk entries = map (λ e. (e.call, e.reply)) (filter (λ e. e.desk == desk) entries)

-- the turns that the desk has had are among the entries that it has seen
abbrev pub HasSeenItsTurns : Watch → Type 0
HasSeenItsTurns w = w.own ≤ turns_of w.number w.seen

-- What the desk has seen grew, and its own entries in what came are the calls of the text's lines with the replies that these were given.
pub record AreHeld (old new : Watch) (text : List ℕ) (outcomes : List Outcome) : Type 0 where
  pub added : List Entry
  pub added_is : new.seen ≡ old.seen ++ added
  pub held : held_by old.number added ≡ all_journaled (lines_of text) outcomes

-- all lines were answered, and the desk's list holds what was written for calls
pub record IsHeld (o : Opening) (old new : Watch) (left_old left_new was now : Option (List ℕ)) (answers refusals : ℕ) : Type 0 where
  pub answered : IsAnswered (IsDeskStep o) old new left_old left_new was now answers refusals
  pub held : AreHeld old new answered.bytes answered.outcomes
  pub turns : HasSeenItsTurns new

-- the same of the lines that were answered before a run ended early
pub record IsHeldAtStop (o : Opening) (fault : RunFault) (old new : Watch) (left_old left_new was now : Option (List ℕ)) : Type 0 where
  pub stopped : IsStopped (IsDeskStep o) (DeskLacksMemory o) fault old new left_old left_new was now
  pub held : AreHeld old stopped.mid stopped.used stopped.outcomes
  pub turns : HasSeenItsTurns new

-- ---- a desk alone

-- what a desk has seen, as the state of a board of one thread
abbrev pub board_state : Opening → Watch → DeskState
board_state o w = record { history = record { opening = o; entries = w.seen }; desk = w.number; turn = w.own + 1 }

-- it is desk 1, and its turns in what it has seen are those that it has had
pub record IsOnlyDesk (w : Watch) : Type 0 where
  pub number : w.number ≡ 1
  pub turns : turns_of w.number w.seen ≡ w.own
