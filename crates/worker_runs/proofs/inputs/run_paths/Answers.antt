use Rattle.std.proofs.Common.{rules, refl, [], None, Some, Ok}
use Rattle.solomon_reader.specs.Instances.{view}
use Rattle.solomon_reader.specs.Reading.{read_of}
use Rattle.worker_runs.specs.Scripted.{flow_of}
use Rattle.worker_runs.proofs.Live.{by_live, by_run, by_script}
use Rattle.worker_runs.proofs.Served.{no_instance, unread}
use Rattle.worker_runs.proofs.inputs.run_paths.Goals as goal

pub returns-in-Err-read-clause-files : goal.returns-in-Err-read-clause-files
returns-in-Err-read-clause-files g c =
    let bytes = c.as_slice.result.now in
    let was = g.O.Write.contents c.args.writer.now in
    by_run c.args.paths.instance.now c.args.paths.script.now _ c.args.orders None None (Some []) (Some []) was was (g.F.Write.contents c.args.faults.now) (g.F.Write.contents c.stopped.new.faults) c.stopped.result bytes (read_of bytes) refl (λ none. refl)
    (unread (read_of bytes) c.args.orders (flow_of None None (Some []) (Some []) was was) (g.F.Write.contents c.args.faults.now) (g.F.Write.contents c.stopped.new.faults) c.from.result c.stopped.result
    (no_instance c.in-Err-read.fault c.from.result (read_of bytes) (flow_of None None (Some []) (Some []) was was) (refl, refl, refl) c.from.ensures c.in-Err-read.ensures.exact) c.stopped.ensures.status c.stopped.ensures.reported)

pub returns-in-Err-open-clause-files : goal.returns-in-Err-open-clause-files
returns-in-Err-open-clause-files g c =
    by_script c.args.paths.instance.now c.args.paths.script.now _ c.args.orders (g.O.Write.contents c.args.writer.now) (g.F.Write.contents c.args.faults.now) (g.F.Write.contents c.unread-in-Err-open.new.faults) c.unread-in-Err-open.result
    c.as_slice.result.now (view c.in-Ok-read.judged) (search rules) c.unread-in-Err-open.ensures.unreadable

pub returns-in_default-clause-files : goal.returns-in_default-clause-files
returns-in_default-clause-files g c =
    by_run c.args.paths.instance.now c.args.paths.script.now _ c.args.orders _ _ _ _ (g.O.Write.contents c.args.writer.now) (g.O.Write.contents c.answered.new.writer) (g.F.Write.contents c.args.faults.now) (g.F.Write.contents c.answered.new.faults) c.answered.result
    c.as_slice.result.now (Ok (view c.in-Ok-read.judged)) (search rules) (λ none. search rules) c.answered.ensures.run

pub returns-in-Ok-open-2-clause-files : goal.returns-in-Ok-open-2-clause-files
returns-in-Ok-open-2-clause-files g c =
    by_run c.args.paths.instance.now c.args.paths.script.now _ c.args.orders _ _ _ _ (g.O.Write.contents c.args.writer.now) (g.O.Write.contents c.answered-in-Ok-open-2.new.writer) (g.F.Write.contents c.args.faults.now) (g.F.Write.contents c.answered-in-Ok-open-2.new.faults) c.answered-in-Ok-open-2.result
    c.as_slice.result.now (Ok (view c.in-Ok-read.judged)) (search rules) (λ none. search rules) c.answered-in-Ok-open-2.ensures.run

pub returns-clause-files : goal.returns-clause-files
returns-clause-files g c =
    by_live c.args.paths.instance.now c.args.paths.script.now _ c.args.orders (g.O.Write.contents c.args.writer.now) (g.F.Write.contents c.args.faults.now) (g.F.Write.contents c.unread-in-Err-open-2.new.faults) c.unread-in-Err-open-2.result
    c.in-Some.path.now c.as_slice.result.now (view c.in-Ok-read.judged) (search rules) (search rules) c.unread-in-Err-open-2.ensures.unreadable
