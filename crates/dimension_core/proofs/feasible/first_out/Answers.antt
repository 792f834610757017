use Rattle.std.proofs.Common.{arith, below_more}
use Rattle.std.proofs.Math.Facts.{Fits-below}
use Rattle.std.proofs.lemmas.Bool.{OnFalse_at}
use Rattle.std.proofs.lemmas.Grind.{common_steps}
use Rattle.dimension_core.specs.Setup.{setting}
use Rattle.dimension_core.proofs.Misses.{miss_at}
use Rattle.dimension_core.proofs.Outs.{fits_at, first_out_at, served_item, known_item, high_item, few_items, few_index, none_fit, asked_none, asked_most, asked_all, at_most}
use Rattle.dimension_core.proofs.feasible.first_out.Goals as goal

pub returns-then-not-in_bounds-clause-first : goal.returns-then-not-in_bounds-clause-first
returns-then-not-in_bounds-clause-first g c =
    let fits = fits_at (setting c.args.setup.now) _ _ _ _ _ _ _ c.registry.ensures.value c.dimensions-dimension-items.ensures.value c.loop-k-test.true c.dimension-item.is c.in_bounds.ensures.bounds in
    let below = c.loop-k-test.true in
    first_out_at _ _ _ _ (grind (arith, common_steps)) c.loop-k.invariant.fits (λ f. let yes = fits.1 f in grind arith)

pub loop-k-preserved : goal.loop-k-preserved
loop-k-preserved g c =
    let fits = fits_at (setting c.args.setup.now) _ _ _ _ _ _ _ c.registry.ensures.value c.dimensions-dimension-items.ensures.value c.loop-k-test.true c.dimension-item.is c.in_bounds.ensures.bounds in
    record {
      fits = below_more _ _ c.loop-k.invariant.fits (fits.0 c.if-not-in_bounds.false);
      asks = grind arith;
    }

pub returns-clause-first : goal.returns-clause-first
returns-clause-first g c = λ k h. c.loop-k.invariant.fits k (grind (arith, common_steps))

pub returns-then-not-in_bounds-clause-missed : goal.returns-then-not-in_bounds-clause-missed
returns-then-not-in_bounds-clause-missed g c =
    let missed = OnFalse_at {b = c.in_bounds.result} (cc) c.in_bounds.ensures.missed in
    miss_at (setting c.args.setup.now) _ _ _ _ _ _ _ _ _ _ c.registry.ensures.value c.dimensions-dimension-items.ensures.value c.loop-k-test.true c.dimension-item.is c.loop-k.invariant.asks missed

pub in_bounds-requires-clause-served : goal.in_bounds-requires-clause-served
in_bounds-requires-clause-served g c =
    served_item (setting c.args.setup.now) _ _ _ _ c.registry.ensures.sound c.registry.ensures.value c.dimensions-dimension-items.ensures.value c.loop-k-test.true c.dimension-item.is

pub in_bounds-requires-clause-known : goal.in_bounds-requires-clause-known
in_bounds-requires-clause-known g c =
    known_item (setting c.args.setup.now) _ _ _ _ c.registry.ensures.sound c.dimensions-dimension-items.ensures.value c.loop-k-test.true c.dimension-item.is c.requires.known

pub in_bounds-requires-clause-high : goal.in_bounds-requires-clause-high
in_bounds-requires-clause-high g c =
    high_item (setting c.args.setup.now) _ _ _ _ c.registry.ensures.sound c.dimensions-dimension-items.ensures.value c.loop-k-test.true c.dimension-item.is c.requires.high

pub overflow_add-result : goal.overflow_add-result
overflow_add-result g c =
    Fits-below tt (few_items (setting c.args.setup.now) _ _ c.registry.ensures.sound c.dimensions-dimension-items.ensures.value c.loop-k-test.true)

pub returns-then-not-in_bounds-clause-asks : goal.returns-then-not-in_bounds-clause-asks
returns-then-not-in_bounds-clause-asks g c =
    asked_most _ _ _ _ _ _ _ c.dimensions-dimension-items.ensures.value c.loop-k-test.true c.loop-k.invariant.asks c.in_bounds.ensures.asks

pub returns-then-not-in_bounds-clause-sound : goal.returns-then-not-in_bounds-clause-sound
returns-then-not-in_bounds-clause-sound g c =
    c.dimensions-dimension-items.ensures.sound

pub returns-clause-asks : goal.returns-clause-asks
returns-clause-asks g c =
    at_most _ _ _ (asked_all _ _ _ _ _ _ c.dimensions-dimension-items.ensures.value c.loop-k.auto.k-end c.loop-k-test.false c.loop-k.invariant.asks)

pub returns-clause-whole : goal.returns-clause-whole
returns-clause-whole g c =
    asked_all _ _ _ _ _ _ c.dimensions-dimension-items.ensures.value c.loop-k.auto.k-end c.loop-k-test.false c.loop-k.invariant.asks

pub returns-clause-sound : goal.returns-clause-sound
returns-clause-sound g c =
    c.dimensions-dimension-items.ensures.sound

pub loop-k-init : goal.loop-k-init
loop-k-init g c =
    record { fits = none_fit (setting c.args.setup.now) c.args.vehicle c.args.route.now; asks = asked_none c.args.meter.now _ }

pub overflow_cast-result : goal.overflow_cast-result
overflow_cast-result g c =
    Fits-below tt (few_index (setting c.args.setup.now) _ _ c.registry.ensures.sound c.dimensions-dimension-items.ensures.value c.loop-k-test.true)
