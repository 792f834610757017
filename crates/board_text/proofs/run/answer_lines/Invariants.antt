use Rattle.board_text.specs.Fed.{Fed, flow_of}
use Rattle.board_text.proofs.run.answer_lines.Given as goal

-- so many lines were answered, and of what was read some bytes are held
abbrev pub invariant-lines : goal.invariant-lines
invariant-lines g l = Fed g.F.Front.step (g.F.Front.seen l.fn.front) (g.F.Front.seen l.front) (flow_of (g.I.Read.remaining l.fn.reader) (g.I.Read.remaining l.reader) (g.W.Write.contents l.fn.writer) (g.W.Write.contents l.writer)) l.feed.held.items l.before l.counts
    × g.F.Front.ready l.front
