use Rattle.std.proofs.Common.{◌<◌, ◌≤◌}
use Rattle.std.specs.Io.KnownBytes.{Consumes}
use Rattle.program_parts.specs.Head.{IsHead}
use Rattle.program_parts.proofs.head.read_parts.Given as goal

abbrev pub invariant-loop : goal.invariant-loop
invariant-loop g l = record {
  taken : Consumes (g.I.Read.remaining l.fn.reader) (g.I.Read.remaining l.reader) l.head.text.items;
  head : IsHead l.head.text.items l.head.line;
  room : 0 < l.chunk.len;
  short : l.head.line ≤ 16777216;
}
