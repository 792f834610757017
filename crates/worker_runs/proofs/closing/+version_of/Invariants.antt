use Rattle.std.proofs.Common.{vec_len}
use Rattle.worker_runs.proofs.closing.+version_of.Given as goal

abbrev pub decreases-version_of : goal.decreases-version_of
decreases-version_of g l = vec_len l.others
