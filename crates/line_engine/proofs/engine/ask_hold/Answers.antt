use Rattle.std.proofs.Common.{refl}
use Rattle.line_engine.proofs.Marked.{answered, unanswered, held, not_held, bad_head}
use Rattle.line_engine.proofs.engine.ask_hold.Goals as goal

pub returns-in-Ok-clause-ok : goal.returns-in-Ok-clause-ok
returns-in-Ok-clause-ok g c =
    answered g.F.Front.step g.F.Front.refuses _ _ _ _ (held _ _ _ _ c.in-Ok.is c.call.ensures c.read_hold.ensures) (λ answer s. (answer, refl, s)) _ _ c.reply.ensures.ok

pub returns-in-Ok-clause-err : goal.returns-in-Ok-clause-err
returns-in-Ok-clause-err g c =
    unanswered g.F.Front.step g.F.Front.refuses _ _ _ _ (held _ _ _ _ c.in-Ok.is c.call.ensures c.read_hold.ensures) (λ answer s. (answer, refl, s)) refl _ c.reply.ensures.err

pub returns-in-Err-clause-ok : goal.returns-in-Err-clause-ok
returns-in-Err-clause-ok g c = bad_head g.F.Front.step _ _ _ (not_held _ _ _ c.in-Err.is c.read_hold.ensures) _
