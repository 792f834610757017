-- What the policy answers, as replies of the board.
use Rattle.std.specs.Prelude.{ℕ, Result, Ok, Err}
use Rattle.rbac_core.specs.declared.command.Command.{Command}
use Rattle.rbac_core.specs.declared.command.Outcome.{Outcome}
use Rattle.rbac_core.specs.declared.command.Outcome.TheVariants as outcomes
use Rattle.policy_core.specs.declared.refusal.Refusal.{Refusal as PolicyRefusal}
use Rattle.policy_core.specs.declared.refusal.Refusal.TheVariants as narrow
use Rattle.policy_core.specs.State.{PolicyState}
use Rattle.rbac_core.specs.Step.{step}
use Rattle.board_rules.specs.declared.reply.Refusal.{Refusal}
use Rattle.board_rules.specs.declared.reply.Refusal.TheVariants as refusals
use Rattle.board_rules.specs.declared.reply.Reply.{Reply}
use Rattle.board_rules.specs.declared.reply.Reply.TheVariants.{Done, Session, Refused}

-- a refusal of the policy as one of the board, each by its name; running out of memory is no answer of a step
abbrev pub board_refusal : PolicyRefusal → Refusal
board_refusal narrow.NoSession = refusals.NoSession
board_refusal narrow.NoAccess = refusals.NoAccess
board_refusal narrow.NoUser = refusals.NoUser
board_refusal narrow.NoRole = refusals.NoRole
board_refusal narrow.NoSet = refusals.NoSet
board_refusal narrow.BadObject = refusals.BadObject
board_refusal narrow.Cycle = refusals.Cycle
board_refusal narrow.InSet = refusals.InSet
board_refusal narrow.Number = refusals.Number
board_refusal narrow.Already = refusals.Already
board_refusal narrow.NotThere = refusals.NotThere
board_refusal narrow.NotAuthorized = refusals.NotAuthorized
board_refusal (narrow.Ssd set) = refusals.Ssd set
board_refusal (narrow.Dsd set) = refusals.Dsd set
board_refusal narrow.Full = refusals.Full
board_refusal narrow.NoMemory = refusals.Full

-- the reply to a command that was carried out
abbrev pub outcome_reply : Outcome → Reply
outcome_reply outcomes.Done = Done
outcome_reply (outcomes.Session number) = Session number

-- the reply to what the policy answers
abbrev pub reply_of : Result Outcome PolicyRefusal → Reply
reply_of (Ok outcome) = outcome_reply outcome
reply_of (Err refusal) = Refused (board_refusal refusal)

-- the one right reply to a command of a session, and the policy after it
unfoldable pub policy_reply : PolicyState → ℕ → Command → Reply
policy_reply policy session command = reply_of (step policy session command).1

unfoldable pub policy_after : PolicyState → ℕ → Command → PolicyState
policy_after policy session command = (step policy session command).0
