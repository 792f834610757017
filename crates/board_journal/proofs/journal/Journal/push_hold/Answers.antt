use Rattle.std.proofs.Common.{◌≤◌, sym, ap, subst}
use Rattle.board_journal.specs.Entries.{held}
use Rattle.board_journal.specs.Shown.{Shown}
use Rattle.board_journal.proofs.Shared.{journal_push, paged_more}
use Rattle.board_journal.proofs.journal.Journal.push_hold.Goals as goal

pub push_hold-requires : goal.push_hold-requires
push_hold-requires c = record {
  room = subst (λ (s : Shown). 1 ≤ s.room) (sym c.self.view_is) c.requires.room;
  spare = subst (λ (s : Shown). 1 ≤ s.spare) (sym c.self.view_is) c.requires.spare;
}

pub invariant_of-self : goal.invariant_of-self
invariant_of-self c =
    journal_push c.self.inside.full.items c.self.inside.last c.push_hold.new.self (held c.args.desk c.args.turn c.args.hold c.args.ruling) c.push_hold.ensures.entries c.push_hold.ensures.room c.self.invariant

pub returns-clause-entries : goal.returns-clause-entries
returns-clause-entries c =
    paged_more c.self.inside.full.items c.self.inside.last.entries c.push_hold.new.self.entries c.args.self.now.entries (held c.args.desk c.args.turn c.args.hold c.args.ruling) c.push_hold.ensures.entries
    (ap (λ (s : Shown). s.entries) c.self.view_is)
