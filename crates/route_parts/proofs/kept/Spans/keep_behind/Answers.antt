use Rattle.std.proofs.Common.{◌≡◌, ℕ, ◌+◌, ◌-◌, ◌*◌, ◌++◌, ◌∙◌, [], ◌∷◌, refl, sym, subst, arith, length, List, Option, ap, drop}
use Rattle.std.proofs.lemmas.Result.{err_from_is_err_and}
use Rattle.dimension_core.specs.declared.range.Range.{Range}
use Rattle.dimension_core.specs.Cumuls.{table_of}
use Rattle.dimension_core.specs.Setup.{setting}
use Rattle.route_parts.specs.Kept.{IsBehind}
use Rattle.route_parts.proofs.Keeping.{cells_fit, cells_none, width_fits, cells_at, cells_row, at_place, node_known, vehicle_known, served_here, BehindCells, behind_first, behind_more, tail_none, tail_on, in_place, none_below, from_end}
use Rattle.route_parts.proofs.Counts.{some_above, before_last, nearer_end}
use Rattle.route_parts.proofs.kept.Spans.keep_behind.Goals as goal

pub loop-dimension-init : goal.loop-dimension-init
loop-dimension-init g c =
    let empty : c.reserve.new.self.items ≡ [] = c.in_ok-reserve.ensures.items ∙ c.clear.ensures.items in
    subst (λ (xs : List (Option Range)). BehindCells (setting c.args.setup.now) c.args.vehicle c.args.route.now (0 * (length c.args.route.now + 1)) xs) (sym empty)
    (cells_none (λ k place span. IsBehind (setting c.args.setup.now) c.args.vehicle (drop (length c.args.route.now - place) c.args.route.now) k span) (length c.args.route.now + 1))

pub span_home-span-requires : goal.span_home-span-requires
span_home-span-requires g c =
    let s = setting c.args.setup.now in
    let dims = c.dimensions-dimension-items.ensures in
    let same = at_place s c.loop-dimension.dimension-index _ _ dims.value c.loop-dimension-test.true c.dimension-item.is in
    let here = in_place c.loop-dimension.dimension-index _ _ dims.value c.loop-dimension-test.true in
    record { low = c.requires.low; high = vehicle_known s c.loop-dimension.dimension-index _ c.dimension-item.result dims.sound here same c.requires.high }

pub span_before-span-requires : goal.span_before-span-requires
span_before-span-requires g c =
    let s = setting c.args.setup.now in
    let dims = c.dimensions-dimension-items.ensures in
    let same = at_place s c.loop-dimension.dimension-index _ _ dims.value c.loop-dimension-test.true c.dimension-item.is in
    let here = in_place c.loop-dimension.dimension-index _ _ dims.value c.loop-dimension-test.true in
    record {
      laws = c.requires.laws;
      served = served_here s c.loop-dimension.dimension-index _ _ (dims.served c.loop-dimension.dimension-index here) c.registry.ensures.value same;
      filled = c.loop-k.invariant.tail.span.filled;
      node = node_known s c.loop-dimension.dimension-index _ c.dimension-item.result dims.sound here same (c.requires.known (length c.args.route.now - 1 - c.loop-k.k) 0 (from_end c.loop-k.k _ c.loop-k-test.true));
      next = c.loop-k.invariant.known;
      low = c.requires.low;
      high = vehicle_known s c.loop-dimension.dimension-index _ c.dimension-item.result dims.sound here same c.requires.high;
    }

pub returns-in_err-reserve : goal.returns-in_err-reserve
returns-in_err-reserve g c = let p = err_from_is_err_and c.from_residual.result c.from_residual.ensures.1 in rw p.1 tt

pub returns-in_err-push : goal.returns-in_err-push
returns-in_err-push g c = let p = err_from_is_err_and c.from_residual-in_err-push.result c.from_residual-in_err-push.ensures.1 in rw p.1 tt

pub returns-in_err-push-2 : goal.returns-in_err-push-2
returns-in_err-push-2 g c = let p = err_from_is_err_and c.from_residual-in_err-push-2.result c.from_residual-in_err-push-2.ensures.1 in rw p.1 tt

pub bounds-route-route : goal.bounds-route-route
bounds-route-route g c = from_end c.loop-k.k _ c.loop-k-test.true

pub overflow_add-width : goal.overflow_add-width
overflow_add-width g c = width_fits _ c.requires.short

pub loop-k-init : goal.loop-k-init
loop-k-init g c =
    let s = setting c.args.setup.now in
    let dims = c.dimensions-dimension-items.ensures in
    let same = at_place s c.loop-dimension.dimension-index _ _ dims.value c.loop-dimension-test.true c.dimension-item.is in
    let here = in_place c.loop-dimension.dimension-index _ _ dims.value c.loop-dimension-test.true in
    let pushed : c.push.new.self.items ≡ c.loop-dimension.cells.items ++ c.span_home-span.result ∷ [] = c.in_ok-push.ensures.items in
    let tail = tail_none (table_of s.tables c.dimension-item.result) c.dimension-item.result c.args.vehicle c.args.route.now c.span_home-span.result
    (c.requires.laws.meet.end (table_of s.tables c.dimension-item.result) c.dimension-item.result c.args.vehicle 0 c.span_home-span.result c.span_home-span.ensures) in
    record {
      cells = subst (λ (xs : List (Option Range)). BehindCells s c.args.vehicle c.args.route.now (c.loop-dimension.dimension-index * (length c.args.route.now + 1) + (0 + 1)) xs) (sym pushed)
          (behind_first s c.args.vehicle c.args.route.now c.loop-dimension.dimension-index 0 c.loop-dimension.cells.items c.dimension-item.result c.span_home-span.result c.loop-dimension.invariant same tail);
      tail = tail;
      known = node_known s c.loop-dimension.dimension-index 0 c.dimension-item.result dims.sound here same (none_below _);
    }

pub loop-k-preserved : goal.loop-k-preserved
loop-k-preserved g c =
    let s = setting c.args.setup.now in
    let dims = c.dimensions-dimension-items.ensures in
    let same = at_place s c.loop-dimension.dimension-index _ _ dims.value c.loop-dimension-test.true c.dimension-item.is in
    let here = in_place c.loop-dimension.dimension-index _ _ dims.value c.loop-dimension-test.true in
    let h = c.loop-k-test.true in
    let pushed : c.push-in-loop-k.new.self.items ≡ c.loop-k.cells.items ++ c.span_before-span.result ∷ [] = c.in_ok-push-2.ensures.items in
    let next = tail_on _ _ c.dimension-item.result c.args.vehicle c.args.route.now c.loop-k.k c.loop-k.next c.loop-k.span c.span_before-span.result
    c.registry.ensures.value h c.loop-k.invariant.tail c.span_before-span.ensures in
    record {
      cells = subst (λ (xs : List (Option Range)). BehindCells s c.args.vehicle c.args.route.now (c.loop-dimension.dimension-index * (length c.args.route.now + 1) + (c.loop-k.k + 1 + 1)) xs) (sym pushed)
          (behind_more s c.args.vehicle c.args.route.now c.loop-dimension.dimension-index c.loop-k.k _ c.loop-k.cells.items c.dimension-item.result c.span_before-span.result h c.loop-k.invariant.cells same next);
      tail = next;
      known = node_known s c.loop-dimension.dimension-index _ c.dimension-item.result dims.sound here same (c.requires.known (length c.args.route.now - 1 - c.loop-k.k) 0 (from_end c.loop-k.k _ h));
    }

pub loop-dimension-preserved : goal.loop-dimension-preserved
loop-dimension-preserved g c =
    let last = c.loop-k-test.false in
    let end = c.loop-k.auto.k-end in
    cells_row (λ k place span. IsBehind (setting c.args.setup.now) c.args.vehicle (drop (length c.args.route.now - place) c.args.route.now) k span) (length c.args.route.now + 1) c.loop-dimension.dimension-index c.loop-k.k
    c.loop-k.cells.items (omega arith) c.loop-k.invariant.cells

pub returns : goal.returns
returns g c =
    let few = ap length c.dimensions-dimension-items.ensures.value in
    let last = c.loop-dimension-test.false in
    let end = c.loop-dimension.auto.dimension-index-end in
    let all : c.loop-dimension.dimension-index ≡ length (setting c.args.setup.now).dimensions = omega arith in
    record {
      width = refl;
      cells = cells_at (λ k place span. IsBehind (setting c.args.setup.now) c.args.vehicle (drop (length c.args.route.now - place) c.args.route.now) k span) (length c.args.route.now + 1)
          (c.loop-dimension.dimension-index * (length c.args.route.now + 1)) (length (setting c.args.setup.now).dimensions * (length c.args.route.now + 1)) c.loop-dimension.cells.items
          (ap (λ (n : ℕ). n * (length c.args.route.now + 1)) all) c.loop-dimension.invariant;
    }

pub overflow_mul-dimensions : goal.overflow_mul-dimensions
overflow_mul-dimensions g c = cells_fit _ _ _ c.dimensions.ensures.value c.dimensions.ensures.sound.few c.requires.short

pub bounds-dimension-items-dimension-index : goal.bounds-dimension-items-dimension-index
bounds-dimension-items-dimension-index g c = c.loop-dimension-test.true

pub overflow_sub-node : goal.overflow_sub-node
overflow_sub-node g c = some_above _ _ c.loop-k-test.true

pub overflow_sub-node-in-loop-k : goal.overflow_sub-node-in-loop-k
overflow_sub-node-in-loop-k g c = before_last _ _ c.loop-k-test.true

pub loop-k-smaller : goal.loop-k-smaller
loop-k-smaller g c = nearer_end _ _ c.loop-k-test.true

pub loop-dimension-smaller : goal.loop-dimension-smaller
loop-dimension-smaller g c = nearer_end _ _ c.loop-dimension-test.true
