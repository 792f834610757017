use Rattle.std.proofs.Common.{◌≡◌, length}
use Rattle.solomon_reader.specs.Cuts.{full_left, number_after}
use Rattle.solomon_reader.proofs.lines.Lines.next_full.Given as goal

abbrev pub invariant-lines : goal.invariant-lines
invariant-lines l = (full_left l.fn.self.number l.fn.self.rest.now ≡ full_left l.self.number l.self.rest.now) × (number_after l.self.number l.self.rest.now ≡ number_after l.fn.self.number l.fn.self.rest.now)

abbrev pub decreases-lines : goal.decreases-lines
decreases-lines l = length l.self.rest.now
