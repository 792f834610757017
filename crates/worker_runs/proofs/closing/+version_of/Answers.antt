use Rattle.std.proofs.Common.{refl, sym, subst, List}
use mathlib.Core.List.{IsPrefix}
use Rattle.board_rules.specs.declared.call.Entry.{Entry}
use Rattle.worker_runs.proofs.Halls.{if_some}
use Rattle.worker_runs.proofs.Meetings.{turns_at, version_more}
use Rattle.worker_runs.proofs.closing.+version_of.Goals as goal

pub returns-clause-version : goal.returns-clause-version
returns-clause-version g t c =
    let first = c.meet.ensures in
    let again = c.meet-2.ensures in
    let last = c.in-Some.last in
    let seen : IsPrefix last.seen c.meet.new.self.seen = subst (λ (es : List Entry). IsPrefix last.seen es) (sym first.one) first.other_looked.grows in
    if_some c.version_of-version.result _ _ c.version_of-version.ensures.version (λ v m.
    version_more c.histories_go_on.ensures.turns g.N.Naming.opening c.args.seat.now c.meet.new.self last c.pop.new.self.items c.args.others.items c.version_of-version.new.seat.seen c.meet-2.new.self.seen v m
    first.looked.grows first.kept.0 first.kept.1 c.in-Some.ensures.items seen (turns_at last.number last.own c.meet.new.self.seen last.number last.own c.meet.new.other.seen refl refl first.one first.other_looked.turns_are)
    again.looked.grows (turns_at last.number last.own c.meet-2.new.self.seen c.meet.new.other.number c.meet.new.other.own c.meet-2.new.other.seen first.other_kept.0 first.other_kept.1 again.one again.other_looked.turns_are))
