use Rattle.std.proofs.Common.{arith, length-append}
use Rattle.board_journal.specs.Journals.{paged}
use Rattle.board_journal.proofs.Paging.{length-paged}
use Rattle.board_journal.proofs.journal.Journal.len.Goals as goal

pub returns : goal.returns
returns c =
    let full = c.self.inside.full.items in
    let last = c.self.inside.last.entries in
    let pages = c.len.ensures in
    let rest = c.len-2.ensures.len in
    let before = length-paged full c.self.invariant.full in
    let both = length-append (paged full) last in
    rw (← c.self.view_is) (omega (arith, pages, rest, before, both))
