use Rattle.worker_runs.specs.Halls.{post}
use Rattle.worker_runs.proofs.Halls.{one_joined}
use Rattle.worker_runs.proofs.search.+join_threads.Goals as goal

pub returns-in-Ok : goal.returns-in-Ok
returns-in-Ok g t c =
    one_joined c.args.threads.items c.pop.new.self.items c.in-Some.last (λ h. post h.promise.assignment.value.worker h.promise.assignment.value.orders h.promise.assignment.value.seat) g.N.Naming.opening c.in-Some-rest.searched.seats.items c.add.new.self.seats.items c.in-Some-rest.searched.tallies.items c.add.new.self.tallies.items c.join-done.result.seat c.join-done.result.tally
    c.in-Some.ensures.items c.in-Some-rest.ensures c.join-done.ensures c.in-Ok.ensures.seats c.in-Ok.ensures.tallies
