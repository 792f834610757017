use Rattle.std.proofs.Common.{◌≡◌, ℕ, ◌+◌, ◌-◌, ap, arith, subst, [], ◌∷◌, length, refl, slice_index}
use Rattle.best_moves.specs.Search.{IsBestSoFar}
use Rattle.best_moves.specs.Searched.{searched}
use Rattle.best_moves.proofs.Saved.{backwards_saved, forwards_saved, edges_inside, into_room_inside, out_room_inside, shift_inside_possible}
use Rattle.best_moves.proofs.Shifts.{shift_still, shifts_past}
use Rattle.best_moves.proofs.Still.{shift_inside_free}
use Rattle.best_moves.proofs.Small.{after_low, before_after, before_first, count_first, count_fits, count_last, count_less, row_has, too_early}
use Rattle.best_moves.proofs.shift.shift_within.Goals as goal

pub returns-then-place-begin : goal.returns-then-place-begin
returns-then-place-begin g c =
    let q = searched c.args.search.now in
    let fit = c.requires.place.1 in
    let begin = c.first_free-begin.ensures.value in
    let test = c.if-place-begin.true in
    shifts_past q c.requires.search c.args.place c.args.count 1 (length c.args.gathered.now.from.now - c.args.count) c.args.best.found (omega arith)
    (λ k l h counts.
    let front = (shift_inside_free q c.requires.search c.args.place c.args.count k c.requires.inside counts).0 in
    absurd (omega arith))
    c.requires.best

pub row-closes-requires : goal.row-closes-requires
row-closes-requires g c = record { high = out_room_inside (searched c.args.search.now) c.requires.search c.args.gathered.now c.requires.gathered c.requires.inside (c.args.place - 1) (count_first _ _ _ c.requires.place.1) }

pub row-requires : goal.row-requires
row-requires g c = record { high = into_room_inside (searched c.args.search.now) c.requires.search c.args.gathered.now c.requires.gathered c.requires.inside c.args.place (count_less _ _ _ c.requires.place.1) }

pub row-requires-2 : goal.row-requires-2
row-requires-2 g c = record { high = out_room_inside (searched c.args.search.now) c.requires.search c.args.gathered.now c.requires.gathered c.requires.inside (c.args.place + c.args.count - 1) (count_last _ _ _ c.requires.place.1) }

pub first_free-begin-requires-clause-view : goal.first_free-begin-requires-clause-view
first_free-begin-requires-clause-view g c = c.requires.search.view

pub first_free-begin-requires-clause-v : goal.first_free-begin-requires-clause-v
first_free-begin-requires-clause-v g c = (c.requires.gathered.from.low, c.requires.gathered.from.high)

pub overflow_add-after : goal.overflow_add-after
overflow_add-after g c = count_fits c.args.place c.args.count _ c.requires.place.1 c.requires.gathered.from.short

pub overflow_sub-first : goal.overflow_sub-first
overflow_sub-first g c = c.requires.place.0

pub overflow_sub-first-2 : goal.overflow_sub-first-2
overflow_sub-first-2 g c = c.requires.place.0

pub way_at-requires : goal.way_at-requires
way_at-requires g c = before_first c.args.place c.args.count _ _ c.requires.place.0 c.requires.place.1 (edges_inside (searched c.args.search.now) c.requires.search c.args.gathered.now c.requires.gathered c.requires.inside)

pub overflow_sub-after : goal.overflow_sub-after
overflow_sub-after g c = after_low c.args.place c.args.count c.requires.place.0

pub way_at-requires-2 : goal.way_at-requires-2
way_at-requires-2 g c = before_after c.args.place c.args.count _ _ c.requires.place.0 c.requires.place.1 (edges_inside (searched c.args.search.now) c.requires.search c.args.gathered.now c.requires.gathered c.requires.inside)

pub way_at-gained-requires : goal.way_at-gained-requires
way_at-gained-requires g c = row_has _ _ (c.args.place + c.args.count) c.row-closes.ensures.sized c.requires.place.1

pub overflow_sub-after-2 : goal.overflow_sub-after-2
overflow_sub-after-2 g c = after_low c.args.place c.args.count c.requires.place.0

pub best_of_row-best-requires-clause-candidates : goal.best_of_row-best-requires-clause-candidates
best_of_row-best-requires-clause-candidates g c =
    let q = searched c.args.search.now in
    let a = c.args.gathered.now in
    let fit = c.requires.place.1 in
    let f = c.way_at.ensures.value in
    let f2 = c.way_at-2.ensures.value in
    let f3 = c.way_at-gained.ensures.value in
    λ k l h.
    let e : k - 0 + 1 + 0 - 1 ≡ k = omega arith in
    let e2 : k - 0 + 1 + 0 ≡ k + 1 = omega arith in
    let edge = ap (λ (n : ℕ). slice_index a.to_edges.now n) e in
    let comes = ap (λ (n : ℕ). slice_index c.row.result.now n) e in
    let goes = ap (λ (n : ℕ). slice_index c.row-2.result.now n) e2 in
    let saved = forwards_saved q c.requires.search a c.requires.gathered c.requires.inside c.args.place c.args.count (k - 0 + 1)
    c.row.result.now c.row-2.result.now c.row-closes.result.now c.requires.place.0 c.requires.count.0 c.requires.place.1 (omega arith) (omega arith) c.row.ensures.cells c.row-2.ensures.cells c.row-closes.ensures.cells in
    record {
      possible = shift_inside_possible q c.requires.search a c.requires.gathered c.requires.inside c.args.place c.args.count (k - 0 + 1) c.requires.place.0 c.requires.count.0 c.requires.place.1 (omega arith) (omega arith) (λ same. absurd (omega (arith, same)));
      near = (refl, refl, c.requires.count.1);
      saving = omega arith;
    }

pub best_of_row-best-requires-clause-best : goal.best_of_row-best-requires-clause-best
best_of_row-best-requires-clause-best g c =
    let q = searched c.args.search.now in
    let begin = c.first_free-begin.ensures.value in
    shifts_past q c.requires.search c.args.place c.args.count 1 (c.first_free-begin.result - 1 - 0 + 1) c.args.best.found (omega arith)
    (λ k l h counts. absurd (too_early _ k c.first_free-begin.result (shift_inside_free q c.requires.search c.args.place c.args.count k c.requires.inside counts).1 (omega arith) begin))
    c.requires.best

pub best_of_row-best-requires-clause-ways : goal.best_of_row-best-requires-clause-ways
best_of_row-best-requires-clause-ways g c =
    let fit = c.requires.place.1 in
    let some = c.requires.count.0 in
    let counted = edges_inside (searched c.args.search.now) c.requires.search c.args.gathered.now c.requires.gathered c.requires.inside in
    let to = c.row.ensures.sized in
    let on = c.row-2.ensures.sized in
    λ k l h. record { edges = omega arith; to = omega arith; on = omega arith; most = c.requires.gathered.most }

pub best_of_row-requires-clause-ways : goal.best_of_row-requires-clause-ways
best_of_row-requires-clause-ways g c =
    let fit = c.requires.place.1 in
    let some = c.requires.count.0 in
    let counted = edges_inside (searched c.args.search.now) c.requires.search c.args.gathered.now c.requires.gathered c.requires.inside in
    let to = c.row.ensures.sized in
    let on = c.row-2.ensures.sized in
    λ k l h. record { edges = omega arith; to = omega arith; on = omega arith; most = c.requires.gathered.most }

pub best_of_row-requires-clause-candidates : goal.best_of_row-requires-clause-candidates
best_of_row-requires-clause-candidates g c =
    let q = searched c.args.search.now in
    let a = c.args.gathered.now in
    let some = c.requires.count.0 in
    let low = c.requires.place.0 in
    let f = c.way_at.ensures.value in
    let f2 = c.way_at-2.ensures.value in
    let f3 = c.way_at-gained.ensures.value in
    λ k l h.
    let m = c.args.count in
    let e : k - m + 1 + m - 1 ≡ k = omega arith in
    let e2 : k - m + 1 + m ≡ k + 1 = omega arith in
    let edge = ap (λ (n : ℕ). slice_index a.to_edges.now n) e in
    let comes = ap (λ (n : ℕ). slice_index c.row.result.now n) e in
    let goes = ap (λ (n : ℕ). slice_index c.row-2.result.now n) e2 in
    let saved = backwards_saved q c.requires.search a c.requires.gathered c.requires.inside c.args.place m (k - m + 1)
    c.row.result.now c.row-2.result.now c.row-closes.result.now c.requires.place.0 c.requires.count.0 c.requires.place.1 (omega arith) (omega arith) c.row.ensures.cells c.row-2.ensures.cells c.row-closes.ensures.cells in
    record {
      possible = shift_inside_possible q c.requires.search a c.requires.gathered c.requires.inside c.args.place m (k - m + 1) c.requires.place.0 c.requires.count.0 c.requires.place.1 (omega arith) (omega arith) (λ same. absurd (omega (arith, same)));
      near = (refl, refl, c.requires.count.1);
      saving = omega arith;
    }

pub best_of_row-requires-clause-best : goal.best_of_row-requires-clause-best
best_of_row-requires-clause-best g c =
    let q = searched c.args.search.now in
    let low = c.requires.place.0 in
    let e : c.args.place - 1 - 0 + 1 ≡ c.args.place = omega arith in
    let e2 : c.args.place + 1 ≡ c.args.place + c.args.count - c.args.count + 1 = omega arith in
    subst (λ (n : ℕ). IsBestSoFar q (1 ∷ q.v ∷ c.args.place ∷ c.args.count ∷ q.w ∷ n ∷ []) c.best_of_row-best.result.found) e2
    (shift_still q c.requires.search c.args.place c.args.count c.best_of_row-best.result.found c.requires.inside
    (subst (λ (n : ℕ). IsBestSoFar q (1 ∷ q.v ∷ c.args.place ∷ c.args.count ∷ q.w ∷ n ∷ []) c.best_of_row-best.result.found) e c.best_of_row-best.ensures))

pub returns : goal.returns
returns g c =
    let q = searched c.args.search.now in
    let fit = c.requires.place.1 in
    let low = c.requires.place.0 in
    let e : length c.args.gathered.now.from.now - 1 - c.args.count + 1 ≡ length c.args.gathered.now.from.now - c.args.count = omega arith in
    subst (λ (n : ℕ). IsBestSoFar q (1 ∷ q.v ∷ c.args.place ∷ c.args.count ∷ q.w ∷ n ∷ []) c.best_of_row.result.found) e c.best_of_row.ensures
