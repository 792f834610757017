-- What a front may answer to a command.
use Rattle.std.specs.Prelude.{ℕ, List, Bool}
use Rattle.board_rules.specs.declared.call.Entry.{Entry}
use Rattle.board_rules.specs.declared.reply.Reply.{Reply}
use Rattle.board_rules.specs.declared.reply.Fault.{Fault}
use Rattle.board_rules.specs.declared.reply.AskFault.{AskFault}
use Rattle.board_rules.specs.Listing.{RowShown}

-- The answer to a command.
pub data Answer : Type 0 where
  -- the reply to a call
  Replied : Reply → Answer
  -- a call that was not taken
  Faulted : Fault → Answer
  -- the rows that the session may view, as lines and as JSON
  Listed : List RowShown → Answer
  Rowed : List RowShown → Answer
  -- the journal
  Audited : List Entry → Answer
  -- the names of a review
  Reviewed : List (List ℕ) → Answer
  -- whether CheckAccess holds
  Checked : Bool → Answer
  -- a question that was refused
  Refused : AskFault → Answer
