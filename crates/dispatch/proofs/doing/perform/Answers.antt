use Rattle.std.proofs.Common.{map, refl, inr}
use Rattle.program_parts.specs.Streams.{streams_of}
use Rattle.dispatch.proofs.Said.{ran, said}
use Rattle.dispatch.proofs.doing.perform.Goals as goal

pub returns-then-explain-clause-performed : goal.returns-then-explain-clause-performed
returns-then-explain-clause-performed g c =
    let found = c.in-Ok-Run in
    ran (map g.S.AsStr.text c.args.words.now) _ _ (g.I.Read.remaining c.args.input.now)
    (streams_of (g.O.Write.contents c.args.output.now) (g.O.Write.contents c.run_paths.new.writer) (g.F.Write.contents c.args.faults.now) (g.F.Write.contents c.run_paths.new.faults)) c.run_paths.result
    (rw found.field-0-is at found.ensures.ok) refl refl refl refl c.run_paths.ensures.files

pub returns-then-explain-clause-notes : goal.returns-then-explain-clause-notes
returns-then-explain-clause-notes g c =
    let found = c.in-Ok-Run in
    inr (_, rw found.field-0-is at found.ensures.ok, c.if-explain.true)

pub returns-else-explain-clause-performed : goal.returns-else-explain-clause-performed
returns-else-explain-clause-performed g c =
    let found = c.in-Ok-Run in
    ran (map g.S.AsStr.text c.args.words.now) _ _ (g.I.Read.remaining c.args.input.now)
    (streams_of (g.O.Write.contents c.args.output.now) (g.O.Write.contents c.run_paths-in-Ok-Run.new.writer) (g.F.Write.contents c.args.faults.now) (g.F.Write.contents c.run_paths-in-Ok-Run.new.faults)) c.run_paths-in-Ok-Run.result
    (rw found.field-0-is at found.ensures.ok) refl refl refl refl c.run_paths-in-Ok-Run.ensures.files

pub returns-in-Err-clause-performed : goal.returns-in-Err-clause-performed
returns-in-Err-clause-performed g c =
    said (map g.S.AsStr.text c.args.words.now) (g.I.Read.remaining c.args.input.now) c.in-Err.fault
    (streams_of (g.O.Write.contents c.args.output.now) (g.O.Write.contents c.told.new.output) (g.F.Write.contents c.args.faults.now) (g.F.Write.contents c.told.new.faults)) c.told.result
    c.in-Err.ensures.err c.told.ensures.status c.told.ensures.unwritten c.told.ensures.untold c.told.ensures.reported
