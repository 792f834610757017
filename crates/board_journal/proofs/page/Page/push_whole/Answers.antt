use Rattle.std.proofs.Common.{rules}
use Rattle.board_journal.proofs.Whole.{entries-push_whole}
use Rattle.board_journal.proofs.page.Page.push_whole.Goals as goal

pub returns-clause-entries : goal.returns-clause-entries
returns-clause-entries c =
    rw (c.push_reserved.ensures.items, c.push_reserved-2.ensures.items, ← c.self.view_is)
    (entries-push_whole c.self.inside.whole.items c.self.inside.records.items c.args.entry c.len-place.result (search rules) c.self.invariant.within)
