-- What comes of a line, and what is written for it.
use Rattle.std.specs.Prelude.{ℕ, List, [], Bool, true, false}
use Rattle.std.specs.List.{flat_map}
use Rattle.board_rules.specs.declared.reply.Reply.{Reply}
use Rattle.board_rules.specs.declared.reply.Reply.TheVariants as replies
use Rattle.board_lines.specs.declared.command.LineFault.{LineFault}
use Rattle.board_lines.specs.Replies.{ended, reply_text, fault_text, ask_fault_text, line_fault_text}
use Rattle.board_lines.specs.Listings.{list_text, audit_text, review_text, check_text}
use Rattle.board_lines.specs.Json.{json_text}
use Rattle.line_engine.specs.Answers.{Answer, Replied, Faulted, Listed, Rowed, Audited, Reviewed, Checked, Refused}

-- What comes of a line: it is skipped, or the front answered, or the line is bad.
pub data Outcome : Type 0 where
  Nothing : Outcome
  Said : Answer → Outcome
  Bad : LineFault → Outcome

-- ---- texts, with their line ends

abbrev pub answer_text : Answer → List ℕ
answer_text (Replied reply) = ended (reply_text reply)
answer_text (Faulted fault) = ended (fault_text fault)
answer_text (Listed rows) = list_text rows
answer_text (Rowed rows) = ended (json_text rows)
answer_text (Audited entries) = audit_text entries
answer_text (Reviewed names) = review_text names
answer_text (Checked answer) = ended (check_text answer)
answer_text (Refused fault) = ended (ask_fault_text fault)

abbrev pub outcome_text : Outcome → List ℕ
outcome_text Nothing = []
outcome_text (Said answer) = answer_text answer
outcome_text (Bad fault) = ended (line_fault_text fault)

-- what is written for the outcomes
abbrev pub written : List Outcome → List ℕ
written = flat_map outcome_text

-- ---- counts

-- a line with a reply
abbrev pub has_reply : Outcome → Bool
has_reply Nothing = false
has_reply _ = true

-- a denial or a refusal
abbrev pub is_reply_refusal : Reply → Bool
is_reply_refusal (replies.Denied denial) = true
is_reply_refusal (replies.Refused refusal) = true
is_reply_refusal _ = false

-- such a reply, a fault or a refused question
abbrev pub is_answer_refusal : Answer → Bool
is_answer_refusal (Replied reply) = is_reply_refusal reply
is_answer_refusal (Faulted fault) = true
is_answer_refusal (Refused fault) = true
is_answer_refusal _ = false

-- such an answer, or a bad line
abbrev pub is_refusal : Outcome → Bool
is_refusal Nothing = false
is_refusal (Said answer) = is_answer_refusal answer
is_refusal (Bad fault) = true
