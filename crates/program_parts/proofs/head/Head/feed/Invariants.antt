use Rattle.std.proofs.Common.{◌≡◌, ◌≤◌, ◌++◌, take}
use Rattle.program_parts.specs.Head.{IsHead}
use Rattle.program_parts.proofs.head.Head.feed.Given as goal

abbrev pub invariant-loop-k : goal.invariant-loop-k
invariant-loop-k l = record {
  text : l.self.text.items ≡ l.fn.self.text.items ++ take l.k l.piece;
  head : IsHead l.self.text.items l.self.line;
  short : l.self.line ≤ 16777216;
}
