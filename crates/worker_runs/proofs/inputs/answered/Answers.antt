use Rattle.std.proofs.Common.{rules}
use Rattle.solomon_reader.specs.Instances.{view}
use Rattle.worker_runs.proofs.Served.{keeps, ran, unrun}
use Rattle.worker_runs.proofs.inputs.answered.Goals as goal

pub returns-in-Ok-clause-run : goal.returns-in-Ok-clause-run
returns-in-Ok-clause-run g c = ran (view c.args.job.instance) c.args.job.orders _ _ _ c.in-Ok.refused _ c.in-Ok.ensures (search rules) (keeps _)

pub returns-in-Err-clause-run : goal.returns-in-Err-clause-run
returns-in-Err-clause-run g c = unrun (view c.args.job.instance) c.args.job.orders _ _ _ c.in-Err.stop _ c.in-Err.ensures c.stopped.ensures.status c.stopped.ensures.reported
