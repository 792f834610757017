-- What a board answers to a question.
use Rattle.std.specs.Prelude.{◌≡◌, Some, None}
use Rattle.board_rules.specs.History.{History}
use Rattle.board_rules.specs.Good.{state_of}
use Rattle.board_rules.specs.Listing.{IsListing}
use Rattle.board_rules.specs.Questions.{list_fault, audit_fault, review_fault, review_of, check_of}
use Rattle.board_lines.specs.declared.command.Command.{Command}
use Rattle.board_lines.specs.declared.command.Command.TheVariants.{List as ListRows, Audit, Review, Check}
use Rattle.line_engine.specs.Answers.{Answer, Listed, Audited, Reviewed, Checked, Refused}

-- After the history the question has this answer: the first refusal whose reason holds, or else the answer itself.
abbrev pub IsAnswerTo : History → Command → Answer → Type 0
IsAnswerTo h (ListRows session) (Listed rows) = (list_fault (state_of h) session ≡ None) × IsListing h.opening.setting (state_of h) session rows
IsAnswerTo h (ListRows session) (Refused fault) = list_fault (state_of h) session ≡ Some fault
IsAnswerTo h (Audit session) (Audited entries) = (audit_fault (state_of h) session ≡ None) × (entries ≡ h.entries)
IsAnswerTo h (Audit session) (Refused fault) = audit_fault (state_of h) session ≡ Some fault
IsAnswerTo h (Review session which) (Reviewed names) = (review_fault (state_of h) session which ≡ None) × (names ≡ review_of (state_of h).policy which)
IsAnswerTo h (Review session which) (Refused fault) = review_fault (state_of h) session which ≡ Some fault
IsAnswerTo h (Check session operation object) (Checked answer) = answer ≡ check_of (state_of h) session operation object
IsAnswerTo h _ _ = ⊥
