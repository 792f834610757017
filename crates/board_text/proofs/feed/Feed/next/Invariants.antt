use Rattle.std.proofs.Common.{◌≡◌, ℕ, List, ◌++◌}
use Rattle.std.specs.Io.KnownBytes.{Consumes}
use Rattle.board_text.proofs.feed.Feed.next.Given as goal

-- the bytes so far are held behind what was held
abbrev pub invariant-reads : goal.invariant-reads
invariant-reads g l = (bytes : List ℕ) × Consumes (g.I.Read.remaining l.fn.reader) (g.I.Read.remaining l.reader) bytes × (l.self.held.items ≡ l.initial.self.held.items ++ bytes)
