use Rattle.std.proofs.Common.{◌≡◌, take}
use Rattle.board_journal.specs.Journals.{pages_of}
use Rattle.board_journal.proofs.journal.shared.Given as goal

abbrev pub invariant-loop-page : goal.invariant-loop-page
invariant-loop-page l = pages_of l.made.items ≡ pages_of (take l.page-index l.pages)
