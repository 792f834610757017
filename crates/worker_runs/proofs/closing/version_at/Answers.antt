use Rattle.std.proofs.Common.{rules, ◌≡◌, ◌∙◌, ℕ, ap, sym}
use Rattle.board_rules.specs.History.{turns_of}
use Rattle.worker_runs.proofs.Meetings.{one_met, turns_between}
use Rattle.worker_runs.proofs.closing.version_at.Goals as goal

pub returns-in-Ok-clause-version : goal.returns-in-Ok-clause-version
returns-in-Ok-clause-version g c =
    let w = c.args.seat.now in
    let mid = c.snapshot-view.new.self in
    let looked = c.check-may.ensures.looked in
    let kept = c.snapshot-view.ensures.kept in
    let after : turns_of w.number c.check-may.new.self.seen ≡ w.own = ap (λ (d : ℕ). turns_of d c.check-may.new.self.seen) (sym kept.0) ∙ (looked.turns_are ∙ kept.1) in
    let now = turns_between c.histories_go_on.ensures.turns w.number w.own w.seen mid.seen c.check-may.new.self.seen c.snapshot-view.ensures.grows looked.grows c.turns_are_seen.ensures after in
    record { entries = mid.seen; met = one_met g.N.Naming.opening w mid.seen c.snapshot-view.ensures.legal c.snapshot-view.ensures.grows now; within = looked.grows; version_is = search rules }
