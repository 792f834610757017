use Rattle.std.proofs.Common.{◌∷◌, inl, inr}
use Rattle.worker_runs.proofs.Halls.{as_far}
use Rattle.worker_runs.proofs.hall_run.close_early.Goals as goal

pub returns-in-Some-clause-may : goal.returns-in-Some-clause-may
returns-in-Some-clause-may g c =
    elim (as_far g.N.Naming.opening (c.args.seat.now ∷ c.in-Some.searched.seats.items) c.in-Some.searched.tallies.items (g.O.Write.contents c.args.writer.now) (g.O.Write.contents c.close-end.new.writer) c.close-end.result c.close-end.ensures.ok c.close-end.ensures.err) [
      | inl e ↦ inl e
      | inr t ↦ inr (rw c.in-Some.is t)
    ]
