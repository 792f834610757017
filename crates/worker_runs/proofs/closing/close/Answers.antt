use Rattle.std.proofs.Common.{List, subst}
use Rattle.search_workers.specs.declared.tally.Tally.{Tally}
use Rattle.worker_runs.specs.Closings.{IsWrittenShort}
use Rattle.worker_runs.specs.Tallies.{closing_text}
use Rattle.worker_runs.proofs.Halls.{closed_short}
use Rattle.worker_runs.proofs.closing.close.Goals as goal

pub returns-clause-err : goal.returns-clause-err
returns-clause-err g c = closed_short g.N.Naming.opening _ c.args.searched.tallies.items _ _ c.in-Err.fault _ c.in-Some.version c.in-Some.ensures.version
    (subst (λ (ts : List Tally). IsWrittenShort c.in-Err.fault (g.O.Write.contents c.args.writer.now) (g.O.Write.contents c.write_closing.new.writer) (closing_text ts c.in-Some.version)) c.as_slice.ensures.value c.in-Err.ensures.err)
