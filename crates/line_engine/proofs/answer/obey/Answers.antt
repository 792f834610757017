use Rattle.std.proofs.Common.{refl}
use Rattle.line_engine.proofs.Marked.{obeyed, failed, obeyed_json, failed_json}
use Rattle.line_engine.proofs.answer.obey.Goals as goal

pub returns-in-Submit-clause-ok : goal.returns-in-Submit-clause-ok
returns-in-Submit-clause-ok g c = obeyed g.F.Front.step g.F.Front.refuses _ _ _ _ c.in-Submit.is (λ answer s. (answer, refl, s)) _ _ c.reply.ensures.ok

pub returns-in-Submit-clause-err : goal.returns-in-Submit-clause-err
returns-in-Submit-clause-err g c = failed g.F.Front.step g.F.Front.refuses _ _ _ _ c.in-Submit.is refl (λ answer s. (answer, refl, s)) _ c.reply.ensures.err

pub returns-in-List-clause-ok : goal.returns-in-List-clause-ok
returns-in-List-clause-ok g c = obeyed g.F.Front.step g.F.Front.refuses _ _ _ _ c.in-List.is (λ answer s. (answer, refl, s)) _ _ c.list.ensures.ok

pub returns-in-List-clause-err : goal.returns-in-List-clause-err
returns-in-List-clause-err g c = failed g.F.Front.step g.F.Front.refuses _ _ _ _ c.in-List.is refl (λ answer s. (answer, refl, s)) _ c.list.ensures.err

pub returns-in-Audit-clause-ok : goal.returns-in-Audit-clause-ok
returns-in-Audit-clause-ok g c = obeyed g.F.Front.step g.F.Front.refuses _ _ _ _ c.in-Audit.is (λ answer s. (answer, refl, s)) _ _ c.audit.ensures.ok

pub returns-in-Audit-clause-err : goal.returns-in-Audit-clause-err
returns-in-Audit-clause-err g c = failed g.F.Front.step g.F.Front.refuses _ _ _ _ c.in-Audit.is refl (λ answer s. (answer, refl, s)) _ c.audit.ensures.err

pub returns-in-Check-clause-ok : goal.returns-in-Check-clause-ok
returns-in-Check-clause-ok g c = obeyed g.F.Front.step g.F.Front.refuses _ _ _ _ c.in-Check.is (λ answer s. (answer, refl, s)) _ _ c.check.ensures.ok

pub returns-in-Check-clause-err : goal.returns-in-Check-clause-err
returns-in-Check-clause-err g c = failed g.F.Front.step g.F.Front.refuses _ _ _ _ c.in-Check.is refl (λ answer s. (answer, refl, s)) _ c.check.ensures.err

pub returns-in-Review-clause-ok : goal.returns-in-Review-clause-ok
returns-in-Review-clause-ok g c = obeyed g.F.Front.step g.F.Front.refuses _ _ _ _ c.in-Review.is (λ answer s. (answer, refl, s)) _ _ c.review.ensures.ok

pub returns-in-Review-clause-err : goal.returns-in-Review-clause-err
returns-in-Review-clause-err g c = failed g.F.Front.step g.F.Front.refuses _ _ _ _ c.in-Review.is refl (λ answer s. (answer, refl, s)) _ c.review.ensures.err

pub returns-in-Json-clause-ok : goal.returns-in-Json-clause-ok
returns-in-Json-clause-ok g c = obeyed_json g.F.Front.step g.F.Front.refuses _ _ _ _ c.in-Json.is _ _ c.json.ensures.ok

pub returns-in-Json-clause-err : goal.returns-in-Json-clause-err
returns-in-Json-clause-err g c = failed_json g.F.Front.step g.F.Front.refuses _ _ _ _ c.in-Json.is _ c.json.ensures.err
