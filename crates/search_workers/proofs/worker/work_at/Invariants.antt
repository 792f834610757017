use Rattle.std.proofs.Common.{◌≡◌, ◌+◌, ◌*◌, ◌≤◌}
use Rattle.search_workers.specs.Draws.{stream_in, seeded, behind}
use Rattle.search_workers.specs.Jobs.{job_of, view_after}
use Rattle.search_workers.specs.Steps.{AreDone}
use Rattle.search_workers.proofs.worker.work_at.Given as goal

abbrev pub invariant-loop-done : goal.invariant-loop-done
invariant-loop-done g l = record {
  done : AreDone (job_of g.N.Naming.opening l.fn.worker.seat.number l.order.session l.order.seed) l.fn.worker.seat l.seat l.done l.search.skips.version l.search.skips.moves.items l.tally;
  version : l.search.skips.version ≤ (view_after g.N.Naming.opening l.seat.seen).version;
  words : stream_in l.rng ≡ behind (2 * l.done) (seeded l.order.seed);
  sum : l.tally.tried + l.tally.idle ≡ l.done;
}
