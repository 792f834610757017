use Rattle.std.proofs.Common.{vec_len}
use Rattle.worker_runs.proofs.search.+join_threads.Given as goal

abbrev pub decreases-join_threads : goal.decreases-join_threads
decreases-join_threads g l = vec_len l.threads
