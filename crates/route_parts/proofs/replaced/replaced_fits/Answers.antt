use Rattle.std.proofs.Common.{List, ℕ, ◌++◌, ◌↔◌, ◌≤◌, All, IsTrue, take, subst, sym}
use Rattle.dimension_core.specs.Feasible.{FitsAll}
use Rattle.dimension_core.specs.Setup.{setting}
use Rattle.route_parts.specs.Parts.{way_of}
use Rattle.route_parts.proofs.Keeping.{own_front, own_back, rest_whole}
use Rattle.route_parts.proofs.replaced.replaced_fits.Goals as goal

pub fits-requires-clause-ahead : goal.fits-requires-clause-ahead
fits-requires-clause-ahead g c = own_front (setting c.args.setup.now) _ _ _ _ c.args.by.begin c.kept.view_is c.requires.ahead c.requires.begin

pub fits-requires-clause-behind : goal.fits-requires-clause-behind
fits-requires-clause-behind g c = own_back (setting c.args.setup.now) _ _ _ _ c.args.by.end c.kept.view_is c.requires.behind c.requires.end

pub returns : goal.returns
returns g c =
    let by = c.args.by in
    subst (λ (xs : List ℕ). IsTrue c.fits.result ↔ FitsAll (setting c.args.setup.now) c.args.v (take by.begin c.args.route.now ++ (way_of by.turned by.first.now ++ (by.second.now ++ (by.third.now ++ xs)))))
    (rest_whole c.args.route.now by.end) c.fits.ensures

pub fits-requires-clause-known : goal.fits-requires-clause-known
fits-requires-clause-known g c =
    let by = c.args.by in
    subst (λ (xs : List ℕ). All (λ (n : ℕ). n ≤ (setting c.args.setup.now).customers) (take by.begin c.args.route.now ++ (way_of by.turned by.first.now ++ (by.second.now ++ (by.third.now ++ xs)))))
    (sym (rest_whole c.args.route.now by.end)) c.requires.known

pub fits-requires-clause-laws : goal.fits-requires-clause-laws
fits-requires-clause-laws g c = c.laws_below.ensures
