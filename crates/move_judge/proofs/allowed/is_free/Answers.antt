use Rattle.std.proofs.Common.{false, sym, ◌∙◌}
use Rattle.std.proofs.lemmas.Bool.{false≢true}
use Rattle.dimension_core.specs.Setup.{setting}
use Rattle.move_judge.specs.Scope.{scope}
use Rattle.move_judge.proofs.Free.{unskipped}
use Rattle.move_judge.proofs.allowed.is_free.Goals as goal

pub returns-then-is_skipped : goal.returns-then-is_skipped
returns-then-is_skipped g c = (λ never. absurd (false≢true never), λ a. absurd (a.fresh (c.is_skipped.ensures.0 c.if-is_skipped.true)))

pub returns : goal.returns
returns g c =
    unskipped (scope false (setting c.args.setup.now)) c.args.view.now c.args.skip.now c.args.mv _ (λ inside. absurd (false≢true (sym c.if-is_skipped.false ∙ c.is_skipped.ensures.1 inside)))
    c.may_go.ensures

pub may_go-requires-clause-near : goal.may_go-requires-clause-near
may_go-requires-clause-near g c = (c.args.v, (c.args.w, c.requires.near))
