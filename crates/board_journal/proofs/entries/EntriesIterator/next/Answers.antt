use Rattle.std.proofs.Common.{◌++◌, ap, sym, ◌∙◌}
use Rattle.board_journal.specs.Journals.{paged, last_entries}
use Rattle.board_journal.proofs.Paging.{drop-get}
use Rattle.board_journal.proofs.entries.EntriesIterator.next.Goals as goal

pub returns-clause-steps : goal.returns-clause-steps
returns-clause-steps c =
    let at = c.loop-self.self-inside in
    sym c.loop-self.invariant ∙ ap (λ xs. xs ++ (paged at.full.now ++ last_entries at.last)) (drop-get at.page.now.entries at.next _ c.entry-kept.ensures)
