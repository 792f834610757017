use Rattle.std.proofs.Common.{List, ℕ, ◌++◌, ◌↔◌, ◌≤◌, All, IsTrue, take, subst, sym}
use Rattle.dimension_core.specs.Feasible.{FitsAll}
use Rattle.dimension_core.specs.Setup.{setting}
use Rattle.route_parts.proofs.Keeping.{own_front, other_back, rest_whole}
use Rattle.route_parts.proofs.replaced.joined_fits.Goals as goal

pub fits-requires-clause-ahead : goal.fits-requires-clause-ahead
fits-requires-clause-ahead g c = own_front (setting c.args.setup.now) _ _ _ _ c.args.by.keep c.kept.view_is c.requires.ahead c.requires.keep

pub fits-requires-clause-behind : goal.fits-requires-clause-behind
fits-requires-clause-behind g c = other_back (setting c.args.setup.now) _ _ _ _ c.args.by.keep_other c.kept.view_is c.requires.over c.requires.keep_other

pub returns : goal.returns
returns g c =
    let by = c.args.by in
    subst (λ (xs : List ℕ). IsTrue c.fits.result ↔ FitsAll (setting c.args.setup.now) c.args.v (take by.keep by.route.now ++ xs))
    (rest_whole by.other.now by.keep_other) c.fits.ensures

pub fits-requires-clause-known : goal.fits-requires-clause-known
fits-requires-clause-known g c =
    let by = c.args.by in
    subst (λ (xs : List ℕ). All (λ (n : ℕ). n ≤ (setting c.args.setup.now).customers) (take by.keep by.route.now ++ xs))
    (sym (rest_whole by.other.now by.keep_other)) c.requires.known

pub fits-requires-clause-laws : goal.fits-requires-clause-laws
fits-requires-clause-laws g c = c.laws_below.ensures
