use Rattle.std.proofs.Common.{◌≡◌, None, Some, subst}
use Rattle.std.specs.Prelude.{IfOk, IfErr, OnOk, IsErrOf}
use Rattle.board_rules.specs.History.{state_after}
use Rattle.board_rules.specs.Questions.{MayAsk, audit_fault, review_fault, review_of}
use Rattle.board_core.specs.Kept.{CoreState}
use Rattle.board_lock.proofs.locked.Locked.review.Goals as goal

pub returns-clause-names : goal.returns-clause-names
returns-clause-names g c =
    let s = g.N.Naming.opening.setting in
    subst (λ (k : CoreState). IfOk c.review.result (λ names. names.items ≡ review_of (state_after s k.journal).policy c.args.which)) c.self.view_is (c.review.ensures.names s c.self.invariant.kept)

pub returns-clause-asked : goal.returns-clause-asked
returns-clause-asked g c =
    let s = g.N.Naming.opening.setting in
    subst (λ (k : CoreState). OnOk c.review.result (review_fault (state_after s k.journal) c.args.session c.args.which ≡ None)) c.self.view_is (c.review.ensures.asked s c.self.invariant.kept)

pub returns-clause-fault : goal.returns-clause-fault
returns-clause-fault g c =
    let s = g.N.Naming.opening.setting in
    subst (λ (k : CoreState). IfErr c.review.result (MayAsk (review_fault (state_after s k.journal) c.args.session c.args.which))) c.self.view_is (c.review.ensures.fault s c.self.invariant.kept)

pub returns-clause-barred : goal.returns-clause-barred
returns-clause-barred g c = λ f.
    let s = g.N.Naming.opening.setting in
    subst (λ (k : CoreState). audit_fault (state_after s k.journal) c.args.session ≡ Some f → IsErrOf c.review.result f) c.self.view_is (c.review.ensures.barred s f c.self.invariant.kept)
