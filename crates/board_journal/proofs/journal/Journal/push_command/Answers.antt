use Rattle.std.proofs.Common.{◌≤◌, sym, ap, subst}
use Rattle.board_journal.specs.Entries.{commanded}
use Rattle.board_journal.specs.Shown.{Shown}
use Rattle.board_journal.proofs.Shared.{journal_push, paged_more}
use Rattle.board_journal.proofs.journal.Journal.push_command.Goals as goal

pub push_command-requires : goal.push_command-requires
push_command-requires c = record {
  room = subst (λ (s : Shown). 1 ≤ s.room) (sym c.self.view_is) c.requires.room;
  spare = subst (λ (s : Shown). 1 ≤ s.spare) (sym c.self.view_is) c.requires.spare;
}

pub invariant_of-self : goal.invariant_of-self
invariant_of-self c =
    journal_push c.self.inside.full.items c.self.inside.last c.push_command.new.self (commanded c.args.desk c.args.turn c.args.session c.args.command c.args.reply) c.push_command.ensures.entries c.push_command.ensures.room c.self.invariant

pub returns-clause-entries : goal.returns-clause-entries
returns-clause-entries c =
    paged_more c.self.inside.full.items c.self.inside.last.entries c.push_command.new.self.entries c.args.self.now.entries (commanded c.args.desk c.args.turn c.args.session c.args.command c.args.reply) c.push_command.ensures.entries
    (ap (λ (s : Shown). s.entries) c.self.view_is)
