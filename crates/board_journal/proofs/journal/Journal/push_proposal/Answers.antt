use Rattle.std.proofs.Common.{◌≤◌, sym, ap, subst}
use Rattle.board_journal.specs.Entries.{proposed}
use Rattle.board_journal.specs.Shown.{Shown}
use Rattle.board_journal.proofs.Shared.{journal_push, paged_more}
use Rattle.board_journal.proofs.journal.Journal.push_proposal.Goals as goal

pub push_proposal-requires : goal.push_proposal-requires
push_proposal-requires c = record {
  room = subst (λ (s : Shown). 1 ≤ s.room) (sym c.self.view_is) c.requires.room;
  spare = subst (λ (s : Shown). 1 ≤ s.spare) (sym c.self.view_is) c.requires.spare;
}

pub invariant_of-self : goal.invariant_of-self
invariant_of-self c =
    journal_push c.self.inside.full.items c.self.inside.last c.push_proposal.new.self (proposed c.args.proposal c.args.verdict) c.push_proposal.ensures.entries c.push_proposal.ensures.room c.self.invariant

pub returns-clause-entries : goal.returns-clause-entries
returns-clause-entries c =
    paged_more c.self.inside.full.items c.self.inside.last.entries c.push_proposal.new.self.entries c.args.self.now.entries (proposed c.args.proposal c.args.verdict) c.push_proposal.ensures.entries
    (ap (λ (s : Shown). s.entries) c.self.view_is)
