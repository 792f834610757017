use Rattle.std.proofs.Common.{◌++◌, take}
use Rattle.command_line.proofs.Bytes.{advance, appends_then}
use Rattle.command_line.proofs.saying.report.Goals as goal

pub loop-rest-preserved : goal.loop-rest-preserved
loop-rest-preserved g c =
    let i = c.loop-rest.invariant in
    let rest = c.loop-rest.rest.now in
    let n = c.in-Ok.n in
    (i.0 ++ take n rest, advance c.args.line.now i.0 rest n i.1, appends_then _ _ _ i.0 (take n rest) i.2 c.in-Ok.ensures.bytes)
