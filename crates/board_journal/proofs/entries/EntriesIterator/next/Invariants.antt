use Rattle.std.proofs.Common.{◌≡◌, ◌+◌, ◌++◌, length, drop}
use Rattle.board_journal.specs.Journals.{paged, last_entries, last_pages}
use Rattle.board_journal.proofs.entries.EntriesIterator.next.Given as goal

-- only entries that were read, and pages without entries, were passed over
abbrev pub invariant-loop-self : goal.invariant-loop-self
invariant-loop-self l =
    drop l.self-inside.next l.self-inside.page.now.entries ++ (paged l.self-inside.full.now ++ last_entries l.self-inside.last) ≡ l.fn.self

-- the pages that are still to come
abbrev pub decreases-loop-self : goal.decreases-loop-self
decreases-loop-self l = length l.self-inside.full.now + last_pages l.self-inside.last
