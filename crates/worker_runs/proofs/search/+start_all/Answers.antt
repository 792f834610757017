use Rattle.std.proofs.Common.{rules}
use Rattle.worker_runs.specs.Halls.{post}
use Rattle.worker_runs.proofs.Halls.{if_some, one_thread}
use Rattle.worker_runs.proofs.search.+start_all.Goals as goal

pub returns : goal.returns
returns g t c = λ whole.
    let w = c.with_one.ensures whole in
    one_thread c.start_one-thread.result c.with_one.result.threads.items c.start_all-crew.result.threads.items (λ h. post h.promise.assignment.value.worker h.promise.assignment.value.orders h.promise.assignment.value.seat) c.args.orders c.args.seats.items c.pop.new.self.items c.in-Some.seat
    w.1 (if_some c.start_one-thread.result _ _ c.start_one-thread.ensures (λ h e. rw e (search rules))) (c.start_all-crew.ensures w.0) c.in-Some.ensures.items
