-- The entries of events with their replies.
use Rattle.std.specs.Prelude.{ℕ, Result}
use Rattle.rbac_core.specs.declared.command.Command.{Command}
use Rattle.board_rules.specs.declared.call.Call.{Call}
use Rattle.board_rules.specs.declared.call.Call.TheVariants.{Propose, Policy}
use Rattle.board_rules.specs.declared.call.Entry.{Entry}
use Rattle.board_rules.specs.declared.call.Event.{Event}
use Rattle.board_rules.specs.declared.reply.Denial.{Denial}
use Rattle.board_rules.specs.declared.reply.Reply.{Reply}
use Rattle.board_rules.specs.declared.hold.Hold.{Hold}
use Rattle.board_rules.specs.declared.hold.Ruling.{Ruling}
use Rattle.board_rules.specs.Holds.{call_of as hold_call, reply_to}
use Rattle.board_rules.specs.Step.{reply_by}
use Rattle.board_journal.specs.declared.proposal.Proposal.{Proposal}

abbrev pub entry_of : Event → Reply → Entry
entry_of event reply = record { desk = event.desk; turn = event.turn; call = event.call; reply = reply }

abbrev pub call_of : Proposal → Call
call_of p = Propose p.session p.base p.mv

-- the entry of a proposal that commits a version, or is denied
abbrev pub proposed : Proposal → Result ℕ Denial → Entry
proposed p verdict = record { desk = p.desk; turn = p.turn; call = call_of p; reply = reply_by verdict }

-- the entry of a call on a pin or a front
abbrev pub held : ℕ → ℕ → Hold → Ruling → Entry
held desk turn hold ruling = record { desk = desk; turn = turn; call = hold_call hold; reply = reply_to ruling }

-- the entry of a policy command
abbrev pub commanded : ℕ → ℕ → ℕ → Command → Reply → Entry
commanded desk turn session command reply = record { desk = desk; turn = turn; call = Policy session command; reply = reply }
