use Rattle.std.proofs.Common.{refl}
use Rattle.line_engine.proofs.Marked.{answered, unanswered, ordered, not_ordered, bad_head}
use Rattle.line_engine.proofs.engine.ask_order.Goals as goal

pub returns-in-Ok-clause-ok : goal.returns-in-Ok-clause-ok
returns-in-Ok-clause-ok g c =
    answered g.F.Front.step g.F.Front.refuses _ _ _ _ (ordered _ _ _ c.in-Ok.is c.read_order.ensures) (λ answer s. (answer, refl, s)) _ _ c.reply.ensures.ok

pub returns-in-Ok-clause-err : goal.returns-in-Ok-clause-err
returns-in-Ok-clause-err g c =
    unanswered g.F.Front.step g.F.Front.refuses _ _ _ _ (ordered _ _ _ c.in-Ok.is c.read_order.ensures) (λ answer s. (answer, refl, s)) refl _ c.reply.ensures.err

pub returns-in-Err-clause-ok : goal.returns-in-Err-clause-ok
returns-in-Err-clause-ok g c = bad_head g.F.Front.step _ _ _ (not_ordered _ _ _ c.in-Err.is c.read_order.ensures) _
