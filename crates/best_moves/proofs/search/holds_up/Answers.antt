use Rattle.best_moves.specs.Searched.{searched}
use Rattle.best_moves.proofs.Scoping.{allowed_without, best_with, idle_with}
use Rattle.best_moves.proofs.search.holds_up.Goals as goal

pub returns-in-None : goal.returns-in-None
returns-in-None g c = λ _.
    rw c.in-None.is (idle_with (searched c.args.search) c.requires.search c.requires.unbounded (rw c.in-None.is at c.requires.found))

pub returns-in-Some : goal.returns-in-Some
returns-in-Some g c = λ is.
    let q = searched c.args.search in
    let best = rw c.in-Some.is at c.requires.found in
    rw c.in-Some.is (best_with q c.requires.search c.requires.unbounded _ _ best
    (c.requires.search.laws.bounds.fitting q.setting q.view q.skip _ (allowed_without q c.requires.search c.requires.unbounded _ _ best) (c.fits_after.ensures.0 is)))
