use Rattle.line_engine.proofs.Marked.{dropped, unreported, read_whole}
use Rattle.line_engine.proofs.engine.ask.Goals as goal

pub returns-in-Ok-clause-err : goal.returns-in-Ok-clause-err
returns-in-Ok-clause-err g c =
    dropped g.F.Front.step g.F.Front.refuses _ _ _ _ (read_whole _ _ _ c.in-Ok.is c.read_command.ensures) _ c.obey.ensures.err

pub returns-in-Err-clause-ok : goal.returns-in-Err-clause-ok
returns-in-Err-clause-ok g c =
    unreported g.F.Front.step _ _ _ _ c.in-Err.is c.read_command.ensures _ _ (c.unread.ensures _)
