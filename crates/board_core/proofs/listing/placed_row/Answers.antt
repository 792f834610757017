use Rattle.std.proofs.Common.{◌≡◌, ◌+◌, ◌-◌, ◌≤◌, ◌∷◌, [], ◌++◌, ℕ, length, length-append, refl, sym, ap, ◌∙◌, subst, arith, slice_index}
use Rattle.dimension_core.specs.Setup.{setting}
use Rattle.plan_core.specs.declared.touch.Touch.{Touch}
use Rattle.board_rules.specs.Listing.{RowShown, spot_of}
use Rattle.board_core.proofs.Stops.{IsEarlyAt, has_early, early_more, row_early}
use Rattle.board_core.proofs.listing.placed_row.Goals as goal

pub loop-before-preserved : goal.loop-before-preserved
loop-before-preserved g c =
    let s = setting c.args.setup.now in
    let n = c.loop-before.before in
    let y = c.early.result in
    let row : RowShown = c.loop-before.row in
    let grown : c.push_early.new.self ≡ record row { early = row.early ++ y ∷ [] } = c.push_early.ensures in
    let count = ap length c.dimensions-before-end.ensures.value in
    let under = c.loop-before-test.true in
    let sized = c.loop-before.invariant.sized in
    let last : n + 1 ≤ length s.dimensions = omega (arith, count, under) in
    let same : n + 1 - 1 ≡ n = omega arith in
    record {
      spot = ap spot_of grown ∙ c.loop-before.invariant.spot;
      sized = ap (λ (r : RowShown). length r.early) grown ∙ (length-append row.early (y ∷ []) ∙ ap (λ k. k + 1) sized);
      values = λ routes stop k below.
          let now = subst (λ (m : ℕ). IsEarlyAt s routes c.args.vehicle c.args.place m y) same
          (c.early.ensures s routes (has_early s routes c.args.cache.now (n + 1) c.args.vehicle c.args.place stop (omega arith) last)) in
          subst (λ (r : RowShown). IsEarlyAt s routes c.args.vehicle c.args.place k (slice_index r.early k)) (sym grown)
          (early_more s routes c.args.vehicle c.args.place n y row.early sized (c.loop-before.invariant.values routes stop) now k below);
    }

pub returns-clause-early : goal.returns-clause-early
returns-clause-early g c = λ routes stop.
    let s = setting c.args.setup.now in
    let row : RowShown = c.loop-before.row in
    let spot = c.loop-before.invariant.spot in
    let sized = c.loop-before.invariant.sized in
    let count = ap length c.dimensions-before-end.ensures.value in
    let done = c.loop-before-test.false in
    let end = c.loop-before.auto.before-end in
    row_early s routes row c.args.vehicle c.args.place row.early (ap (λ (t : Touch). t.vehicle) spot) (ap (λ (t : Touch). t.place) spot) refl stop.first_vehicle
    (omega (arith, sized, count, done, end))
    (λ k below. c.loop-before.invariant.values routes stop k (omega (arith, below, sized)))
