use Rattle.worker_runs.specs.SetUp.{AreAsked, sessions_to}
use Rattle.worker_runs.proofs.set_up.sessions.Given as goal

abbrev pub invariant-loop-before : goal.invariant-loop-before
invariant-loop-before g l = record {
  ready : g.F.Front.ready l.front;
  asked : AreAsked g.F.Front.step (g.F.Front.seen l.fn.front) (sessions_to l.before) (g.F.Front.seen l.front);
}
