use Rattle.std.proofs.Common.{◌≡◌, ℕ, ◌+◌, ◌-◌, ◌<◌, ◌⊎◌, arith, refl, subst, inl, inr, [], ◌∷◌, length, ◌≤◌}
use Rattle.plan_core.specs.Plan.{route_at}
use Rattle.best_moves.specs.Search.{IsBestSoFar}
use Rattle.best_moves.specs.Searched.{searched}
use Rattle.best_moves.proofs.Orders.{cross_none}
use Rattle.best_moves.proofs.PairRows.{crosses_past}
use Rattle.best_moves.proofs.Saved.{cross_most, cross_possible, cross_saved, into_room, out_room}
use Rattle.best_moves.proofs.cross.cross_over.Goals.{then-last, else-last}
use Rattle.best_moves.proofs.Small.{begin_else, begin_then, below_else, below_then, edge_at, end_else, end_then, next_less, place_fits, row_end, row_some, two_fit, two_fits, two_low, wide_some, wide_two}
use Rattle.best_moves.proofs.cross.cross_over.Goals as goal

pub row-next-requires : goal.row-next-requires
row-next-requires g c = record { high = into_room (searched c.args.search.now) c.requires.search c.args.gathered.now c.requires.gathered (c.args.keep + 1) c.requires.keep }

pub returns-then-lost-from : goal.returns-then-lost-from
returns-then-lost-from g c =
    let q = searched c.args.search.now in
    let a = c.args.gathered.now in
    let wide = c.requires.gathered.to.sized in
    let f = c.way_at-lost.ensures.value in
    let f2 = c.way_at.ensures.value in
    let f3 = c.way_at-2.ensures.value in
    let f4 = c.from.ensures in
    let test = c.if-lost-from.true in
    let bound = c.wanted-floor.ensures.value in
    crosses_past q c.requires.search c.args.keep 0 (length a.to.now - 1) c.args.best.found (omega arith)
    (λ l low h counts.
    let most = cross_most q c.requires.search a c.requires.gathered c.args.keep l c.row-here.result.now c.row-next.result.now c.requires.apart c.requires.keep (omega arith) counts.possible
    c.row-here.ensures.cells c.row-next.ensures.cells in
    omega arith)
    c.requires.best

pub row-here-requires : goal.row-here-requires
row-here-requires g c = record { high = out_room (searched c.args.search.now) c.requires.search c.args.gathered.now c.requires.gathered c.args.keep (next_less _ _ c.requires.keep) }

pub way_at-lost-requires : goal.way_at-lost-requires
way_at-lost-requires g c = edge_at c.args.keep _ _ c.requires.keep c.requires.gathered.from_edges.counted

pub overflow_add-index : goal.overflow_add-index
overflow_add-index g c = place_fits c.args.keep _ c.requires.keep c.requires.gathered.from.short

pub way_at-requires : goal.way_at-requires
way_at-requires g c = row_some _ _ _ c.row-here.ensures.sized c.requires.gathered.to.sized

pub overflow_sub-width : goal.overflow_sub-width
overflow_sub-width g c = wide_some _ _ c.requires.gathered.to.sized

pub way_at-requires-2 : goal.way_at-requires-2
way_at-requires-2 g c = row_end _ _ _ c.row-next.ensures.sized c.requires.gathered.to.sized

pub overflow_add-least : goal.overflow_add-least
overflow_add-least g c = two_fit _ _ c.way_at.ensures.small c.way_at-2.ensures.small

pub wanted-floor-requires : goal.wanted-floor-requires
wanted-floor-requires g c = two_low _ _ c.way_at.ensures.small c.way_at-2.ensures.small

pub overflow_add-last : goal.overflow_add-last
overflow_add-last g c = two_fits c.args.keep _ c.requires.keep c.requires.gathered.from.short

pub overflow_sub-end : goal.overflow_sub-end
overflow_sub-end g c = wide_two _ _ c.requires.gathered.to.sized

pub overflow_sub-end-else-last : goal.overflow_sub-end-else-last
overflow_sub-end-else-last g c = wide_some _ _ c.requires.gathered.to.sized

pub best_of_row-requires-clause-candidates : goal.best_of_row-requires-clause-candidates
best_of_row-requires-clause-candidates g c =
    let q = searched c.args.search.now in
    let a = c.args.gathered.now in
    let sized = c.requires.gathered.from.sized in
    let wide = c.requires.gathered.to.sized in
    let fit = c.requires.keep in
    let f = c.way_at-lost.ensures.value in
    λ l low h.
    let few : l + 1 < length a.to.now = elim c.if-last.branch [
      | then-last w ↦ below_then l c.if-last.end _ w.end-is h
      | else-last w ↦ below_else l c.if-last.end _ w.end-is h
    ] in
    let some : (c.args.keep < length (route_at q.view.routes q.v)) ⊎ (l < length (route_at q.view.routes q.w)) = elim c.if-last.branch [
      | then-last w ↦ let e = w.end-is in inr (omega arith)
      | else-last w ↦ let o = w.if-last.false in inl (omega arith)
    ] in
    let can = cross_possible q c.requires.search a c.requires.gathered c.args.keep l c.requires.apart fit few some in
    let saved = cross_saved q c.requires.search a c.requires.gathered c.args.keep l c.row-here.result.now c.row-next.result.now fit few can c.row-here.ensures.cells c.row-next.ensures.cells in
    record { possible = can; near = (refl, refl, c.requires.apart); saving = omega arith }

pub best_of_row-requires-clause-ways : goal.best_of_row-requires-clause-ways
best_of_row-requires-clause-ways g c =
    let wide = c.requires.gathered.to.sized in
    let counted = c.requires.gathered.to_edges.counted in
    let to = c.row-next.ensures.sized in
    let on = c.row-here.ensures.sized in
    let high : c.if-last.end + 1 ≤ length c.args.gathered.now.to.now = elim c.if-last.branch [
      | then-last w ↦ end_then c.if-last.end _ _ w.end-is wide
      | else-last w ↦ end_else c.if-last.end _ _ w.end-is wide
    ] in
    λ k l h. record { edges = omega arith; to = omega arith; on = omega arith; most = c.requires.gathered.most }

pub best_of_row-requires-clause-best : goal.best_of_row-requires-clause-best
best_of_row-requires-clause-best g c =
    crosses_past (searched c.args.search.now) c.requires.search c.args.keep 0 c.args.begin c.args.best.found (omega arith) (λ k l h counts. absurd (c.requires.onto k h counts)) c.requires.best

pub best_of_row-requires-clause-order : goal.best_of_row-requires-clause-order
best_of_row-requires-clause-order g c =
    elim c.if-last.branch [
      | then-last w ↦ begin_then c.args.begin c.if-last.end _ w.end-is c.requires.begin
      | else-last w ↦ begin_else c.args.begin c.if-last.end _ w.end-is c.requires.begin
    ]

pub returns : goal.returns
returns g c =
    let q = searched c.args.search.now in
    let sized = c.requires.gathered.from.sized in
    let wide = c.requires.gathered.to.sized in
    elim c.if-last.branch [
      | then-last w ↦
          let e = w.end-is in
          let o = w.if-last.true in
          let f : c.if-last.end + 1 ≡ length c.args.gathered.now.to.now - 1 = omega arith in
          subst (λ (k : ℕ). IsBestSoFar q (4 ∷ q.v ∷ c.args.keep ∷ q.w ∷ k ∷ []) c.best_of_row.result.found) f
          (cross_none q c.requires.search c.args.keep c.if-last.end c.best_of_row.result.found (omega arith) (omega arith) c.best_of_row.ensures)
      | else-last w ↦
          let e = w.end-is in
          subst (λ (k : ℕ). IsBestSoFar q (4 ∷ q.v ∷ c.args.keep ∷ q.w ∷ k ∷ []) c.best_of_row.result.found) e c.best_of_row.ensures
    ]
