use Rattle.std.proofs.Common.{◌≡◌, List, ℕ, ◌++◌, length}
use Rattle.line_engine.specs.Running.{Grows, Progress}
use Rattle.line_engine.proofs.engine.feed.Given as goal

-- the bytes before what is left were taken
abbrev pub invariant-lines : goal.invariant-lines
invariant-lines g l = (done : List ℕ) × (l.piece ≡ done ++ l.left) × g.F.Front.ready l.front
    × Grows l.fn.outbox.held.items l.outbox.held.items (λ out. Progress g.F.Front.step (g.F.Front.seen l.fn.front) (g.F.Front.seen l.front) out (l.fn.partial.items ++ done) l.partial.items l.fn.outbox.tally.seen l.outbox.tally.seen l.fn.outbox.tally.lines l.outbox.tally.lines l.fn.outbox.tally.refused l.outbox.tally.refused)

abbrev pub decreases-lines : goal.decreases-lines
decreases-lines g l = length l.left
