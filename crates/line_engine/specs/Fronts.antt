-- How a front may fail to answer, where step says which answers a command may have, and refuses what running out of memory at a command may
-- leave.
use Rattle.board_rules.specs.declared.call.Call.{Call}
use Rattle.board_rules.specs.declared.reply.Fault.{Fault}
use Rattle.board_rules.specs.declared.reply.Fault.TheVariants as turn_faults
use Rattle.board_rules.specs.declared.reply.AskFault.{AskFault}
use Rattle.board_rules.specs.declared.reply.AskFault.TheVariants as ask_faults
use Rattle.board_lines.specs.declared.command.Command.{Command}
use Rattle.board_lines.specs.declared.command.Command.TheVariants.{Submit}
use Rattle.line_engine.specs.Answers.{Answer, Faulted, Refused}

-- A call was not taken.
abbrev pub MayFault : {S : Type 0} → (S → Command → Answer → S → Type 0) → (S → Command → S → Type 0) → S → Call → Fault → S → Type 0
MayFault step refuses old call turn_faults.NoMemory new = refuses old (Submit call) new
MayFault step refuses old call fault new = step old (Submit call) (Faulted fault) new

-- A question was not answered.
abbrev pub MayRefuse : {S : Type 0} → (S → Command → Answer → S → Type 0) → (S → Command → S → Type 0) → S → Command → AskFault → S → Type 0
MayRefuse step refuses old question ask_faults.NoMemory new = refuses old question new
MayRefuse step refuses old question fault new = step old question (Refused fault) new
