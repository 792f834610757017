use Rattle.std.proofs.Common.{◌≡◌, ◌+◌, ℕ, [], refl, ap, sym, subst, ◌∙◌, arith}
use Rattle.search_workers.specs.Jobs.{job_of}
use Rattle.search_workers.specs.Steps.{IsDone}
use Rattle.search_workers.specs.Works.{Worked}
use Rattle.search_workers.proofs.Going.{counted_more, going_more, worked}
use Rattle.search_workers.proofs.worker.work_at.Goals as goal

pub one_round-outcome-requires-clause-first : goal.one_round-outcome-requires-clause-first
one_round-outcome-requires-clause-first g c =
    let order = c.args.worker.order in
    c.draw_round-drawn.ensures.first (job_of g.N.Naming.opening c.loop-done.seat.number order.session order.seed) refl (ap (λ s. s.vehicles) (sym c.requires) ∙ sym c.vehicles-vehicles.ensures.value)

pub one_round-outcome-requires-clause-second : goal.one_round-outcome-requires-clause-second
one_round-outcome-requires-clause-second g c =
    let order = c.args.worker.order in
    c.draw_round-drawn.ensures.second (job_of g.N.Naming.opening c.loop-done.seat.number order.session order.seed) refl (ap (λ s. s.vehicles) (sym c.requires) ∙ sym c.vehicles-vehicles.ensures.value)

pub loop-done-init : goal.loop-done-init
loop-done-init g c =
    let none = c.new-tally.ensures.none in
    record {
      done = record {
        number_is = refl;
        each = [];
        many = refl;
        run = refl;
        own = omega arith;
        skipped = record { moves_are = c.new-search.ensures.moves; later = λ n lt. refl };
        counted = record { committed_is = none.0; denied_is = none.1; refused_is = none.2; idle_is = none.3 };
      };
      version = omega (arith, c.new-search.ensures.version);
      words = c.sow-rng.ensures;
      sum = c.new-tally.ensures.sum;
    }

pub loop-done-preserved : goal.loop-done-preserved
loop-done-preserved g c =
    let o = g.N.Naming.opening in
    let order = c.args.worker.order in
    let start = c.args.worker.seat in
    let job = job_of o start.number order.session order.seed in
    let now = c.loop-done in
    let going = now.invariant.done in
    let outcome = c.one_round-outcome.result in
    let after = c.one_round-outcome.new.seat in
    let skips = c.one_round-outcome.new.search.skips in
    let tally = c.count.new.self in
    let here = c.one_round-outcome.ensures.done going.each (ap (λ n. n + 1) going.many) going.skipped in
    let one : IsDone job going.each now.seat after skips.version skips.moves.items outcome =
    subst (λ (n : ℕ). IsDone (job_of o n order.session order.seed) going.each now.seat after skips.version skips.moves.items outcome) going.number_is here in
    let counted = counted_more going.each one.round outcome now.tally tally one.outcome_is going.counted c.count.ensures.committed c.count.ensures.denied c.count.ensures.refused c.count.ensures.idle in
    record {
      done = going_more job start now.seat after now.done now.search.skips.version skips.version now.search.skips.moves.items skips.moves.items outcome now.tally tally going one counted;
      version = c.one_round-outcome.ensures.version;
      words = c.draw_round-drawn.ensures.words;
      sum = omega (arith, c.count.ensures.sum, now.invariant.sum);
    }

pub returns : goal.returns
returns g c =
    let o = g.N.Naming.opening in
    let order = c.args.worker.order in
    let start = c.args.worker.seat in
    let now = c.loop-done in
    let after = c.check-may.new.self in
    let ended : now.done ≡ order.rounds = omega (arith, c.loop-done-test.false, now.auto.done-end) in
    let all = worked o order.session order.seed now.done now.search.skips.version now.search.skips.moves.items start now.seat after now.tally now.invariant.done c.check-may.ensures.looked c.check-may.ensures.kept.0 c.check-may.ensures.kept.1 c.turns_are_seen.ensures now.invariant.sum in
    subst (λ n. Worked o order.session order.seed n start after now.tally) ended all
