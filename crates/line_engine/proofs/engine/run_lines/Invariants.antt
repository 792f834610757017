use Rattle.std.proofs.Common.{ℕ, List, ◌++◌}
use Rattle.std.specs.Io.KnownBytes.{Appends, Consumes}
use Rattle.line_engine.specs.Running.{Progress}
use Rattle.line_engine.proofs.engine.run_lines.Given as goal

-- the bytes so far, and the replies that were sent
abbrev pub invariant-reads : goal.invariant-reads
invariant-reads g l = (bytes : List ℕ) × (sent : List ℕ) × Consumes (g.I.Read.remaining l.fn.reader) (g.I.Read.remaining l.reader) bytes
    × Appends (g.W.Write.contents l.fn.writer) (g.W.Write.contents l.writer) sent
    × Progress g.F.Front.step (g.F.Front.seen l.fn.front) (g.F.Front.seen l.front) (sent ++ l.outbox.held.items) bytes l.partial.items 0 l.outbox.tally.seen 0 l.outbox.tally.lines 0 l.outbox.tally.refused × g.F.Front.ready l.front
