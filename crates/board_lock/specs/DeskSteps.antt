-- How a desk answers commands, by the entries that it has seen.
use Rattle.std.specs.Prelude.{◌≡◌, ℕ, ◌+◌, ◌<◌, List, length}
use Rattle.board_rules.specs.declared.call.Call.{Call}
use Rattle.board_rules.specs.declared.call.Entry.{Entry}
use Rattle.board_rules.specs.declared.reply.Reply.{Reply}
use Rattle.board_rules.specs.declared.reply.Fault.{Fault}
use Rattle.board_rules.specs.declared.reply.Fault.TheVariants.{Full}
use Rattle.board_rules.specs.History.{Opening}
use Rattle.board_lines.specs.declared.command.Command.{Command}
use Rattle.board_lines.specs.declared.command.Command.TheVariants.{Submit}
use Rattle.line_engine.specs.Answers.{Answer, Replied, Faulted}
use Rattle.line_engine.specs.BoardAnswers.{IsAnswerTo}
use Rattle.board_lock.specs.Commits.{Submitted, Looked}
use Rattle.board_lock.specs.Watches.{Watch}

-- The desk had no turn, and its view stays. What it has seen may have grown by entries of other desks.
pub record HadNoTurn (o : Opening) (old new : Watch) : Type 0 where
  pub number : new.number ≡ old.number
  pub own : new.own ≡ old.own
  pub viewed : new.viewed ≡ old.viewed
  pub looked : Looked o old.number old.own old.seen new.seen

-- The desk had one turn: what it has seen ends with its call and this reply. Entries of other desks may stand before them.
pub record HadTurn (o : Opening) (old : Watch) (call : Call) (reply : Reply) (new : Watch) : Type 0 where
  pub number : new.number ≡ old.number
  pub own : new.own ≡ old.own + 1
  pub viewed : new.viewed ≡ old.viewed
  pub submitted : Submitted o old.number old.own call reply old.seen new.seen

-- A call is not taken since the journal is full. No other fault is due: a desk submits its next turn.
abbrev pub IsDue : Opening → List Entry → Fault → Type 0
IsDue o entries Full = length entries ≡ o.setting.max_events
IsDue o entries _ = ⊥

-- From old the command has this answer, which leaves new. A question is answered after all that was seen by then.
abbrev pub IsDeskStep : Opening → Watch → Command → Answer → Watch → Type 0
IsDeskStep o old (Submit call) (Replied reply) new = HadTurn o old call reply new
IsDeskStep o old (Submit call) (Faulted fault) new = HadNoTurn o old new × IsDue o new.seen fault
IsDeskStep o old question answer new = HadNoTurn o old new × IsAnswerTo (record { opening = o; entries = new.seen }) question answer

-- From old memory runs out at the command, which leaves new. A call comes to it only where the journal has room.
abbrev pub DeskLacksMemory : Opening → Watch → Command → Watch → Type 0
DeskLacksMemory o old (Submit call) new = HadNoTurn o old new × (length new.seen < o.setting.max_events)
DeskLacksMemory o old question new = HadNoTurn o old new
