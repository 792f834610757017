use Rattle.std.proofs.Common.{below_more, refl, sym, ◌∙◌}
use Rattle.std.proofs.lemmas.Bool.{false≢true}
use Rattle.dimension_core.specs.Setup.{setting}
use Rattle.route_parts.proofs.Keeping.{in_place, below_end}
use Rattle.route_parts.proofs.Meeting.{fits_by_meeting}
use Rattle.route_parts.proofs.Counts.{none_less}
use Rattle.route_parts.proofs.fits.all_fit.Goals as goal

pub loop-k-init : goal.loop-k-init
loop-k-init g c = λ n h. absurd (none_less n h)

pub returns-then-not-fits_in : goal.returns-then-not-fits_in
returns-then-not-fits_in g c =
    let fits = fits_by_meeting (setting c.args.setup.now) _ _ _ _ _ _ c.registry.ensures.value c.dimensions-dimension-items.ensures.value c.loop-k-test.true c.dimension-item.is in
    (λ no. absurd (false≢true no), λ all. sym c.if-not-fits_in.true ∙ c.fits_in.ensures.1 (fits.1 (all c.loop-k.k (in_place c.loop-k.k _ _ c.dimensions-dimension-items.ensures.value c.loop-k-test.true))))

pub loop-k-preserved : goal.loop-k-preserved
loop-k-preserved g c =
    let fits = fits_by_meeting (setting c.args.setup.now) _ _ _ _ _ _ c.registry.ensures.value c.dimensions-dimension-items.ensures.value c.loop-k-test.true c.dimension-item.is in
    below_more _ _ c.loop-k.invariant (fits.0 (c.fits_in.ensures.0 c.if-not-fits_in.false))

pub returns : goal.returns
returns g c = (λ is k h. c.loop-k.invariant k (below_end k _ _ _ c.dimensions-dimension-items.ensures.value c.loop-k-test.false h), λ all. refl)
