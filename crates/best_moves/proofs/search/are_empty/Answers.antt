use Rattle.std.proofs.lemmas.Bool.{false≢true}
use Rattle.best_moves.proofs.Possible.{none_idle}
use Rattle.best_moves.proofs.search.are_empty.Goals as goal

pub returns : goal.returns
returns c =
    none_idle c.requires.laws c.args.view.now c.args.v c.args.w c.customers.result.now c.customers-2.result.now c.is_empty.result c.is_empty-2.result
    c.customers.ensures c.customers-2.ensures c.is_empty.ensures c.is_empty-2.ensures c.if-not-is_empty.false

pub returns-then-not-is_empty : goal.returns-then-not-is_empty
returns-then-not-is_empty c = λ yes. absurd (false≢true yes)
