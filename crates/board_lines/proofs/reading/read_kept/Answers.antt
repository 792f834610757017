use Rattle.std.proofs.Common.{◌≡◌, ◌∙◌, ℕ, List, [], sym}
use Rattle.std.proofs.lemmas.List.{append-nil}
use Rattle.text_words.specs.Words.{AreFirstOf}
use Rattle.board_lines.proofs.reading.read_kept.Goals as goal

all_first : (kept all : List (List ℕ)) → kept ≡ all → AreFirstOf kept all
all_first kept all e = ([], sym e ∙ sym (append-nil kept))

pub returns-clause-left : goal.returns-clause-left
returns-clause-left c = all_first _ _ c.in_ok-keep_all_words.ensures.words
