use Rattle.std.proofs.Common.{ap, length, arith}
use Rattle.board_journal.specs.Shown.{Shown}
use Rattle.board_journal.proofs.Whole.{entries-push, page-push}
use Rattle.board_journal.proofs.page.Page.push_packed.Goals as goal

pub invariant_of-self : goal.invariant_of-self
invariant_of-self c =
    let room = c.requires.room.room in
    let same = ap (λ (s : Shown). s.room) c.self.view_is in
    rw (c.push_reserved.ensures.items, c.push_reserved.ensures.capacity)
    (page-push c.self.inside.records.items c.self.inside.whole.items _ _ c.args.packed c.self.invariant (omega (arith, room, same)) (c.requires.within (length c.self.inside.whole.items)))

pub returns-clause-entries : goal.returns-clause-entries
returns-clause-entries c entry is =
    rw (c.push_reserved.ensures.items, ← c.self.view_is)
    (entries-push c.self.inside.whole.items c.self.inside.records.items c.args.packed entry (is c.self.inside.whole.items))
