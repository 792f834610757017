-- What is written for a line, and how it counts.
use Rattle.std.specs.Prelude.{◌≡◌, ℕ, List, [], Bool, true, false}
use Rattle.board_rules.specs.declared.reply.Denial.TheVariants as denials
use Rattle.board_rules.specs.declared.reply.Reply.TheVariants as replies
use Rattle.line_engine.specs.declared.mark.Mark.{Mark}
use Rattle.line_engine.specs.declared.mark.Mark.TheVariants as marks
use Rattle.board_lines.specs.declared.command.ReadFault.{ReadFault}
use Rattle.board_lines.specs.declared.command.ReadFault.TheVariants.{Line, NoMemory}
use Rattle.board_lines.specs.Listings.{check_text}
use Rattle.board_lines.specs.Replies.{ended, reply_text, line_fault_text}
use Rattle.board_lines.specs.declared.command.Command.{Command}
use Rattle.board_lines.specs.declared.command.Command.TheVariants.{List as ListRows}
use Rattle.line_engine.specs.Leaving.{Does, as_json}
use Rattle.line_engine.specs.Answers.{Answer}
use Rattle.line_engine.specs.Outcomes.{Outcome, answer_text, outcome_text, has_reply, is_refusal, is_answer_refusal}

-- what is written by a mark, with the text that was spelled
abbrev pub mark_text : Mark → List ℕ → List ℕ
mark_text marks.Nothing text = []
mark_text (marks.Text refused) text = text
mark_text marks.Done text = ended (reply_text replies.Done)
mark_text (marks.Checked answer) text = ended (check_text answer)
mark_text marks.NoSession text = ended (reply_text (replies.Denied denials.NoSession))
mark_text (marks.Bad fault) text = ended (line_fault_text fault)

-- whether something is written
abbrev pub mark_has_reply : Mark → Bool
mark_has_reply marks.Nothing = false
mark_has_reply _ = true

-- whether that is a denial, a refusal, a fault, a refused question or a bad line
abbrev pub mark_is_refusal : Mark → Bool
mark_is_refusal (marks.Text refused) = refused
mark_is_refusal marks.NoSession = true
mark_is_refusal (marks.Bad fault) = true
mark_is_refusal _ = false

-- the mark and the text are those of an outcome of which P holds
pub record Marks (P : Outcome → Type 0) (text : List ℕ) (mark : Mark) : Type 0 where
  pub outcome : Outcome
  pub holds : P outcome
  pub reported : mark_text mark text ≡ outcome_text outcome
  pub replied : mark_has_reply mark ≡ has_reply outcome
  pub refused : mark_is_refusal mark ≡ is_refusal outcome

-- from old the command was carried out, which left new, with this text and mark
abbrev pub Obeys : {S : Type 0} → (S → Command → Answer → S → Type 0) → S → Command → S → List ℕ → Mark → Type 0
Obeys step old command new text mark = Marks (λ outcome. Does step old command outcome new) text mark

-- the front answered the command, which left new, and the text and the mark are those of the answer
abbrev pub Tells : {S : Type 0} → (S → Command → Answer → S → Type 0) → S → Command → S → List ℕ → Mark → Type 0
Tells step old command new text mark =
    (answer : Answer) × step old command answer new × (mark_text mark text ≡ answer_text answer) × (mark_has_reply mark ≡ true) × (mark_is_refusal mark ≡ is_answer_refusal answer)

-- the front answered for a listing, and the text and the mark are those of the answer with its rows as JSON
abbrev pub TellsJson : {S : Type 0} → (S → Command → Answer → S → Type 0) → S → ℕ → S → List ℕ → Mark → Type 0
TellsJson step old session new text mark =
    (answer : Answer) × step old (ListRows session) answer new × (mark_text mark text ≡ answer_text (as_json answer)) × (mark_has_reply mark ≡ true) × (mark_is_refusal mark ≡ is_answer_refusal (as_json answer))

-- the text and the mark are those of a line that is not a command; running out of memory has none
abbrev pub IsUnread : ReadFault → List ℕ → Mark → Type 0
IsUnread (Line fault) text mark = (mark_text mark text ≡ ended (line_fault_text fault)) × (mark_has_reply mark ≡ true) × (mark_is_refusal mark ≡ true)
IsUnread NoMemory text mark = ⊥
