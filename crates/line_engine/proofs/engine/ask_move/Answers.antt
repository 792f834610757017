use Rattle.std.proofs.Common.{refl}
use Rattle.line_engine.proofs.Marked.{answered, unanswered, proposed, not_proposed, bad_head}
use Rattle.line_engine.proofs.engine.ask_move.Goals as goal

pub returns-in-Ok-clause-ok : goal.returns-in-Ok-clause-ok
returns-in-Ok-clause-ok g c =
    answered g.F.Front.step g.F.Front.refuses _ _ _ _ (proposed _ _ _ c.in-Ok.is c.read_proposal.ensures) (λ answer s. (answer, refl, s)) _ _ c.propose.ensures.ok

pub returns-in-Ok-clause-err : goal.returns-in-Ok-clause-err
returns-in-Ok-clause-err g c =
    unanswered g.F.Front.step g.F.Front.refuses _ _ _ _ (proposed _ _ _ c.in-Ok.is c.read_proposal.ensures) (λ answer s. (answer, refl, s)) refl _ c.propose.ensures.err

pub returns-in-Err-clause-ok : goal.returns-in-Err-clause-ok
returns-in-Err-clause-ok g c = bad_head g.F.Front.step _ _ _ (not_proposed _ _ _ c.in-Err.is c.read_proposal.ensures) _
