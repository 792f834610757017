use Rattle.std.proofs.Common.{◌≤◌, sym, ap, subst}
use Rattle.board_journal.specs.Entries.{entry_of}
use Rattle.board_journal.specs.Shown.{Shown}
use Rattle.board_journal.proofs.Shared.{journal_push, paged_more}
use Rattle.board_journal.proofs.journal.Journal.push.Goals as goal

pub push-requires : goal.push-requires
push-requires c = record {
  room = subst (λ (s : Shown). 1 ≤ s.room) (sym c.self.view_is) c.requires.room;
  spare = subst (λ (s : Shown). 1 ≤ s.spare) (sym c.self.view_is) c.requires.spare;
}

pub invariant_of-self : goal.invariant_of-self
invariant_of-self c =
    journal_push c.self.inside.full.items c.self.inside.last c.push.new.self (entry_of c.args.event c.args.reply) c.push.ensures.entries c.push.ensures.room c.self.invariant

pub returns-clause-entries : goal.returns-clause-entries
returns-clause-entries c =
    paged_more c.self.inside.full.items c.self.inside.last.entries c.push.new.self.entries c.args.self.now.entries (entry_of c.args.event c.args.reply) c.push.ensures.entries
    (ap (λ (s : Shown). s.entries) c.self.view_is)
