use Rattle.std.proofs.Common.{◌≡◌, ℕ, ◌+◌, ◌*◌, ◌++◌, ◌∙◌, [], ◌∷◌, refl, sym, subst, arith, length, List, Option, ap, take}
use Rattle.std.proofs.lemmas.Result.{err_from_is_err_and}
use Rattle.dimension_core.specs.declared.range.Range.{Range}
use Rattle.dimension_core.specs.Cumuls.{table_of}
use Rattle.dimension_core.specs.Setup.{setting}
use Rattle.route_parts.specs.Kept.{IsAhead}
use Rattle.route_parts.proofs.Keeping.{cells_fit, cells_none, width_fits, cells_at, cells_row, at_place, node_known, vehicle_known, served_here, AheadCells, ahead_first, ahead_more, span_on, in_place, none_below}
use Rattle.route_parts.proofs.Counts.{nearer_end}
use Rattle.route_parts.proofs.kept.Spans.keep_ahead.Goals as goal

pub loop-dimension-init : goal.loop-dimension-init
loop-dimension-init g c =
    let empty : c.reserve.new.self.items ≡ [] = c.in_ok-reserve.ensures.items ∙ c.clear.ensures.items in
    subst (λ (xs : List (Option Range)). AheadCells (setting c.args.setup.now) c.args.vehicle c.args.route.now (0 * (length c.args.route.now + 1)) xs) (sym empty)
    (cells_none (λ k place span. IsAhead (setting c.args.setup.now) c.args.vehicle (take place c.args.route.now) k span) (length c.args.route.now + 1))

pub start-span-requires : goal.start-span-requires
start-span-requires g c =
    let s = setting c.args.setup.now in
    let dims = c.dimensions-dimension-items.ensures in
    let same = at_place s c.loop-dimension.dimension-index _ _ dims.value c.loop-dimension-test.true c.dimension-item.is in
    let here = in_place c.loop-dimension.dimension-index _ _ dims.value c.loop-dimension-test.true in
    record { low = c.requires.low; high = vehicle_known s c.loop-dimension.dimension-index _ c.dimension-item.result dims.sound here same c.requires.high }

pub span_after-span-requires : goal.span_after-span-requires
span_after-span-requires g c =
    let s = setting c.args.setup.now in
    let dims = c.dimensions-dimension-items.ensures in
    let same = at_place s c.loop-dimension.dimension-index _ _ dims.value c.loop-dimension-test.true c.dimension-item.is in
    let here = in_place c.loop-dimension.dimension-index _ _ dims.value c.loop-dimension-test.true in
    record {
      laws = c.requires.laws;
      served = served_here s c.loop-dimension.dimension-index _ _ (dims.served c.loop-dimension.dimension-index here) c.registry.ensures.value same;
      from = c.loop-customer.invariant.known;
      node = node_known s c.loop-dimension.dimension-index _ c.dimension-item.result dims.sound here same (c.requires.known c.loop-customer.customer-index 0 c.loop-customer-test.true);
      low = c.requires.low;
      high = vehicle_known s c.loop-dimension.dimension-index _ c.dimension-item.result dims.sound here same c.requires.high;
    }

pub returns-in_err-reserve : goal.returns-in_err-reserve
returns-in_err-reserve g c = let p = err_from_is_err_and c.from_residual.result c.from_residual.ensures.1 in rw p.1 tt

pub returns-in_err-push : goal.returns-in_err-push
returns-in_err-push g c = let p = err_from_is_err_and c.from_residual-in_err-push.result c.from_residual-in_err-push.ensures.1 in rw p.1 tt

pub returns-in_err-push-2 : goal.returns-in_err-push-2
returns-in_err-push-2 g c = let p = err_from_is_err_and c.from_residual-in_err-push-2.result c.from_residual-in_err-push-2.ensures.1 in rw p.1 tt

pub overflow_add-width : goal.overflow_add-width
overflow_add-width g c = width_fits _ c.requires.short

pub loop-customer-init : goal.loop-customer-init
loop-customer-init g c =
    let s = setting c.args.setup.now in
    let dims = c.dimensions-dimension-items.ensures in
    let same = at_place s c.loop-dimension.dimension-index _ _ dims.value c.loop-dimension-test.true c.dimension-item.is in
    let here = in_place c.loop-dimension.dimension-index _ _ dims.value c.loop-dimension-test.true in
    let pushed : c.push.new.self.items ≡ c.loop-dimension.cells.items ++ c.start-span.result ∷ [] = c.in_ok-push.ensures.items in
    let begun = c.requires.laws.spans.start (table_of s.tables c.dimension-item.result) c.dimension-item.result c.args.vehicle c.start-span.result c.start-span.ensures.span in
    record {
      cells = subst (λ (xs : List (Option Range)). AheadCells s c.args.vehicle c.args.route.now (c.loop-dimension.dimension-index * (length c.args.route.now + 1) + (0 + 1)) xs) (sym pushed)
          (ahead_first s c.args.vehicle c.args.route.now c.loop-dimension.dimension-index c.loop-dimension.cells.items c.dimension-item.result c.start-span.result c.loop-dimension.invariant same begun);
      span = begun;
      from = refl;
      known = node_known s c.loop-dimension.dimension-index 0 c.dimension-item.result dims.sound here same (none_below _);
    }

pub loop-customer-preserved : goal.loop-customer-preserved
loop-customer-preserved g c =
    let s = setting c.args.setup.now in
    let dims = c.dimensions-dimension-items.ensures in
    let same = at_place s c.loop-dimension.dimension-index _ _ dims.value c.loop-dimension-test.true c.dimension-item.is in
    let here = in_place c.loop-dimension.dimension-index _ _ dims.value c.loop-dimension-test.true in
    let h = c.loop-customer-test.true in
    let pushed : c.push-in-loop-customer.new.self.items ≡ c.loop-customer.cells.items ++ c.span_after-span.result ∷ [] = c.in_ok-push-2.ensures.items in
    let next = span_on _ _ c.dimension-item.result c.args.vehicle c.args.route.now c.loop-customer.customer-index c.loop-customer.from c.loop-customer.span c.span_after-span.result
    c.registry.ensures.value h c.loop-customer.invariant.span c.loop-customer.invariant.from c.span_after-span.ensures in
    record {
      cells = subst (λ (xs : List (Option Range)). AheadCells s c.args.vehicle c.args.route.now (c.loop-dimension.dimension-index * (length c.args.route.now + 1) + (c.loop-customer.customer-index + 1 + 1)) xs) (sym pushed)
          (ahead_more s c.args.vehicle c.args.route.now c.loop-dimension.dimension-index c.loop-customer.customer-index c.loop-customer.cells.items c.dimension-item.result c.span_after-span.result h c.loop-customer.invariant.cells same next);
      span = next;
      from = c.requires.laws.spans.last c.args.route.now c.loop-customer.customer-index h;
      known = node_known s c.loop-dimension.dimension-index _ c.dimension-item.result dims.sound here same (c.requires.known c.loop-customer.customer-index 0 h);
    }

pub loop-dimension-preserved : goal.loop-dimension-preserved
loop-dimension-preserved g c =
    let last = c.loop-customer-test.false in
    let end = c.loop-customer.auto.customer-index-end in
    cells_row (λ k place span. IsAhead (setting c.args.setup.now) c.args.vehicle (take place c.args.route.now) k span) (length c.args.route.now + 1) c.loop-dimension.dimension-index c.loop-customer.customer-index
    c.loop-customer.cells.items (omega arith) c.loop-customer.invariant.cells

pub returns : goal.returns
returns g c =
    let few = ap length c.dimensions-dimension-items.ensures.value in
    let last = c.loop-dimension-test.false in
    let end = c.loop-dimension.auto.dimension-index-end in
    let all : c.loop-dimension.dimension-index ≡ length (setting c.args.setup.now).dimensions = omega arith in
    record {
      width = refl;
      cells = cells_at (λ k place span. IsAhead (setting c.args.setup.now) c.args.vehicle (take place c.args.route.now) k span) (length c.args.route.now + 1)
          (c.loop-dimension.dimension-index * (length c.args.route.now + 1)) (length (setting c.args.setup.now).dimensions * (length c.args.route.now + 1)) c.loop-dimension.cells.items
          (ap (λ (n : ℕ). n * (length c.args.route.now + 1)) all) c.loop-dimension.invariant;
    }

pub overflow_mul-dimensions : goal.overflow_mul-dimensions
overflow_mul-dimensions g c = cells_fit _ _ _ c.dimensions.ensures.value c.dimensions.ensures.sound.few c.requires.short

pub bounds-dimension-items-dimension-index : goal.bounds-dimension-items-dimension-index
bounds-dimension-items-dimension-index g c = c.loop-dimension-test.true

pub bounds-route-customer-index : goal.bounds-route-customer-index
bounds-route-customer-index g c = c.loop-customer-test.true

pub loop-customer-smaller : goal.loop-customer-smaller
loop-customer-smaller g c = nearer_end _ _ c.loop-customer-test.true

pub loop-dimension-smaller : goal.loop-dimension-smaller
loop-dimension-smaller g c = nearer_end _ _ c.loop-dimension-test.true
