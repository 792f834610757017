use Rattle.std.proofs.Common.{◌≡◌, List, ℕ, ◌++◌, length}
use Rattle.std.specs.Io.KnownBytes.{Appends}
use Rattle.line_engine.specs.Running.{Progress}
use Rattle.line_engine.proofs.engine.take_piece.Given as goal

-- the bytes before what is left were taken, and some replies were sent
abbrev pub invariant-parts : goal.invariant-parts
invariant-parts g l = (done : List ℕ) × (sent : List ℕ) × (l.piece ≡ done ++ l.left) × g.F.Front.ready l.front
    × Appends (g.W.Write.contents l.fn.writer) (g.W.Write.contents l.writer) sent
    × Progress g.F.Front.step (g.F.Front.seen l.fn.front) (g.F.Front.seen l.front) (sent ++ l.outbox.held.items) (l.fn.partial.items ++ done) l.partial.items l.fn.outbox.tally.seen l.outbox.tally.seen l.fn.outbox.tally.lines l.outbox.tally.lines l.fn.outbox.tally.refused l.outbox.tally.refused

abbrev pub decreases-parts : goal.decreases-parts
decreases-parts g l = length l.left
