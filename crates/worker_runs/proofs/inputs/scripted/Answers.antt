use Rattle.std.proofs.Common.{Ok, refl}
use Rattle.solomon_reader.specs.Instances.{view}
use Rattle.solomon_reader.specs.Reading.{read_of}
use Rattle.worker_runs.proofs.Served.{at_read, no_instance, unread}
use Rattle.worker_runs.proofs.inputs.scripted.Goals as goal

pub returns-in-Ok-clause-run : goal.returns-in-Ok-clause-run
returns-in-Ok-clause-run g c = at_read (read_of c.args.task.instance.now) (Ok (view c.in-Ok.instance)) c.args.task.orders _ _ _ _ c.in-Ok.ensures.exact c.answered.ensures.run

pub returns-in-Err-clause-run : goal.returns-in-Err-clause-run
returns-in-Err-clause-run g c = unread (read_of c.args.task.instance.now) c.args.task.orders _ _ _ c.from.result _ (no_instance c.in-Err.fault c.from.result (read_of c.args.task.instance.now) _ (refl, refl, refl) c.from.ensures c.in-Err.ensures.exact) c.stopped.ensures.status c.stopped.ensures.reported
