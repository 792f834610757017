use Rattle.std.proofs.Common.{refl, sym, subst, ◌∙◌}
use Rattle.search_workers.specs.Jobs.{job_of}
use Rattle.search_workers.specs.Steps.{AreSkipped, IsDone}
use Rattle.search_workers.proofs.Prefixes.{prefix_self}
use Rattle.search_workers.proofs.Going.{done_refused, done_made}
use Rattle.search_workers.proofs.round.propose.Goals as goal

pub returns-in_default-clause-done : goal.returns-in_default-clause-done
returns-in_default-clause-done g c done skipped best =
    let job = job_of g.N.Naming.opening c.args.seat.now.number c.args.attempt.now.order.session c.args.attempt.now.order.seed in
    let seat = c.args.seat.now in
    let kept = subst (λ n. AreSkipped done n c.make_room.new.self.moves.items) (sym c.make_room.ensures.version) (subst (AreSkipped done c.args.skips.now.version) (sym c.make_room.ensures.moves) skipped) in
    done_refused job done seat seat c.make_room.new.self.version c.make_room.new.self.moves.items (prefix_self seat.seen) refl refl kept

pub returns-in-Err-clause-done : goal.returns-in-Err-clause-done
returns-in-Err-clause-done g c done skipped best =
    let job = job_of g.N.Naming.opening c.args.seat.now.number c.args.attempt.now.order.session c.args.attempt.now.order.seed in
    let kept = subst (λ n. AreSkipped done n c.make_room.new.self.moves.items) (sym c.make_room.ensures.version) (subst (AreSkipped done c.args.skips.now.version) (sym c.make_room.ensures.moves) skipped) in
    done_refused job done c.args.seat.now c.hand_in.new.seat c.make_room.new.self.version c.make_room.new.self.moves.items c.in-Err.ensures.err.0.looked.grows c.in-Err.ensures.number c.in-Err.ensures.err.1 kept

pub returns-in-Ok-hand_in-clause-done : goal.returns-in-Ok-hand_in-clause-done
returns-in-Ok-hand_in-clause-done g c done skipped best =
    let o = g.N.Naming.opening in
    let kept = subst (λ n. AreSkipped done n c.make_room.new.self.moves.items) (sym c.make_room.ensures.version) (subst (AreSkipped done c.args.skips.now.version) (sym c.make_room.ensures.moves) skipped) in
    let made = done_made c.laws_below.ensures o done c.args.seat.now c.hand_in.new.seat c.args.attempt.now.order.session c.args.attempt.now.order.seed c.args.found.version c.make_room.new.self.version c.note.new.self.version c.make_room.new.self.moves.items c.note.new.self.moves.items c.args.found.mv c.args.found.gain c.in-Ok-hand_in.reply
    c.requires.found (c.make_room.ensures.version ∙ c.requires.turned) c.note.ensures.version c.note.ensures.moves kept best c.in-Ok-hand_in.ensures.number c.in-Ok-hand_in.ensures.ok.1 c.in-Ok-hand_in.ensures.ok.0 in
    subst (IsDone (job_of o c.args.seat.now.number c.args.attempt.now.order.session c.args.attempt.now.order.seed) done c.args.seat.now c.hand_in.new.seat c.note.new.self.version c.note.new.self.moves.items) (sym c.note.ensures.outcome) made
