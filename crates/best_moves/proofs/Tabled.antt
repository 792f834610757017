use Rattle.std.proofs.Common.{◌≡◌, ◌∙◌, ℕ, suc, ◌+◌, ◌-◌, ◌*◌, ◌<◌, ◌≤◌, ap, refl, sym, arith, List, [], ◌∷◌, ◌++◌, length, slice_index, true, false, Bool}
use Rattle.std.proofs.lemmas.List.{get_or-append_right}
use Rattle.callback_store.specs.Tables.{Table}
use Rattle.plan_core.specs.Plan.{route_at}
use Rattle.dimension_core.specs.Setting.{Setting}
use Rattle.pin_core.specs.View.{ViewState}
use Rattle.move_core.specs.declared.moves.Move.{Move}
use Rattle.way_costs.specs.Ways.{hop, hop_by, turned, stops, AreStops, AreHopsFrom, AreFloors, AreEdges, AreSums}
use Rattle.way_costs.specs.Savings.{shift_lost, shift_gained, swap_lost, swap_gained, next_lost, next_gained, cross_lost, cross_gained, reverse_lost, reverse_gained}
use Rattle.way_costs.specs.Costs.{IsSaving}

-- a row lies inside its table
row_fits : (a n w : ℕ) → a < n → a * w + w ≤ n * w
row_fits a n w h =
    let parts : n ≡ a + 1 + (n - a - 1) = omega arith in
    let all : n * w ≡ (a + 1 + (n - a - 1)) * w = ap (λ (k : ℕ). k * w) parts in
    omega arith

-- the way to a stop from the one before it
edge_at : (t : Table) (stops edges : List ℕ) (k : ℕ) → AreEdges t stops edges → 1 ≤ k → k < length stops
    → slice_index edges (k - 1) ≡ hop t (slice_index stops (k - 1)) (slice_index stops k)
edge_at t stops edges k e low high =
    let c = e.counted in
    let back : k - 1 + 1 ≡ k = omega arith in
    e.hops (k - 1) (omega arith) ∙ ap (λ (n : ℕ). hop t (slice_index stops (k - 1)) (slice_index stops n)) back

-- the first stop and the last one are the depot
pub stops_ends : (n : ℕ) (routes : List (List ℕ)) (v : ℕ) (all : List ℕ) → AreStops n routes v all → (slice_index all 0 ≡ 0) × (slice_index all (length all - 1) ≡ 0)
stops_ends n routes v all are =
    let r = route_at routes v in
    let long = are.sized in
    let last : length all - 1 ≡ suc (length r) = omega arith in (
      ap (λ (xs : List ℕ). slice_index xs 0) are.is,
      ap (λ (xs : List ℕ). slice_index xs (length all - 1)) are.is ∙ ap (λ (k : ℕ). slice_index (0 ∷ (r ++ 0 ∷ [])) k) last
          ∙ get_or-append_right (0 ∷ r) (0 ∷ []) (suc (length r)) (suc (length r)) 0 refl (omega arith) ∙ ends (suc (length r)),
    )
  where
    ends : (n : ℕ) → slice_index (0 ∷ []) (n - n) ≡ 0
    ends n = let none : n - n ≡ 0 = omega arith in ap (λ (k : ℕ). slice_index (0 ∷ []) k) none

-- a row of a table that lacks a row and a column: the ways from one stop to others, or back to it
abbrev pub IsRowFrom : Bool → Table → List ℕ → List ℕ → ℕ → ℕ → List ℕ → Type 0
IsRowFrom turned t from to column a cells = (k : ℕ) → column ≤ k → k + 1 < length to + column → slice_index cells k ≡ hop_by turned t (slice_index from a) (slice_index to k)

-- it lies inside its table
pub room_from : (turned : Bool) (t : Table) (from to cells : List ℕ) (row column a : ℕ) → AreHopsFrom turned t from to row column cells → a < length from
    → a * length to + length to ≤ length cells
room_from turned t from to cells row column a all h =
    let fits = row_fits a (length from) (length to) h in
    let c = all.counted in
    omega arith

pub row_from : (turned : Bool) (t : Table) (from to cells one : List ℕ) (row column a : ℕ) → column ≤ 1 → AreHopsFrom turned t from to row column cells
    → row ≤ a → a + 1 < length from + row
    → ((k : ℕ) → k < length to → slice_index one k ≡ slice_index cells (a * length to + k)) → IsRowFrom turned t from to column a one
row_from turned t from to cells one row column a few all low high is k l h = is k (omega arith) ∙ all.hops a k low high l h

-- one row of a table
abbrev pub IsRowOf : List ℕ → ℕ → ℕ → List ℕ → Type 0
IsRowOf cells width a one = (k : ℕ) → k < width → slice_index one k ≡ slice_index cells (a * width + k)

row_out : (t : Table) (from to out one : List ℕ) (a : ℕ) → AreHopsFrom false t from to 0 1 out → a + 1 < length from → IsRowOf out (length to) a one → IsRowFrom false t from to 1 a one
row_out t from to out one a all high is k l h = is k (omega arith) ∙ all.hops a k (omega arith) (omega arith) l h

row_into : (t : Table) (from to into one : List ℕ) (a : ℕ) → AreHopsFrom true t from to 1 0 into → 1 ≤ a → a < length from → IsRowOf into (length to) a one → IsRowFrom true t from to 0 a one
row_into t from to into one a all low high is k l h = is k (omega arith) ∙ all.hops a k low (omega arith) l h

-- a way in it
pub way_out : (t : Table) (from out one : List ℕ) (p m : ℕ) → AreHopsFrom false t from from 0 1 out → 1 ≤ p → p + m < length from → IsRowOf out (length from) (p - 1) one
    → slice_index one (p + m) ≡ hop t (slice_index from (p - 1)) (slice_index from (p + m))
way_out t from out one p m all low fit is = row_out t from from out one (p - 1) all (omega arith) is (p + m) (omega arith) (omega arith)

-- the way from the depot to a stop of the first vehicle is among those back from there, and the way from a stop to the depot among those out
pub closed_first : (t : Table) (n : ℕ) (routes : List (List ℕ)) (v w : ℕ) (from to into comes : List ℕ) (before after : ℕ) → AreStops n routes v from → AreStops n routes w to
    → AreHopsFrom true t from to 1 0 into → before ≡ 0 → before < after → after < length from
    → ((k : ℕ) → k < length to → slice_index comes k ≡ slice_index into (after * length to + k)) → slice_index comes 0 ≡ hop t (slice_index from before) (slice_index from after)
closed_first t n routes v w from to into comes before after f g all e order high is =
    let wide = g.sized in
    let way = row_from true t from to into comes 1 0 after (omega arith) all (omega arith) (omega arith) is 0 (omega arith) (omega arith) in
    let depot : slice_index to 0 ≡ slice_index from before = (stops_ends n routes w to g).0 ∙ sym (ap (λ (k : ℕ). slice_index from k) e ∙ (stops_ends n routes v from f).0) in
    way ∙ ap (λ (k : ℕ). hop t k (slice_index from after)) depot

pub closed_last : (t : Table) (n : ℕ) (routes : List (List ℕ)) (v w : ℕ) (from to out goes : List ℕ) (before after : ℕ) → AreStops n routes v from → AreStops n routes w to
    → AreHopsFrom false t from to 0 1 out → after + 1 ≡ length from → before < after
    → ((k : ℕ) → k < length to → slice_index goes k ≡ slice_index out (before * length to + k))
    → slice_index goes (length to - 1) ≡ hop t (slice_index from before) (slice_index from after)
closed_last t n routes v w from to out goes before after f g all e order is =
    let wide = g.sized in
    let last : after ≡ length from - 1 = omega arith in
    let way = row_from false t from to out goes 0 1 before (omega arith) all (omega arith) (omega arith) is (length to - 1) (omega arith) (omega arith) in
    let depot : slice_index to (length to - 1) ≡ slice_index from after = (stops_ends n routes w to g).1 ∙ sym (ap (λ (k : ℕ). slice_index from k) last ∙ (stops_ends n routes v from f).1) in
    way ∙ ap (λ (k : ℕ). hop t (slice_index from before) k) depot

-- none of its ways is below the number that it has where it lacks a way
pub floor_out : (from to out one : List ℕ) (a k : ℕ) → AreFloors from to 0 1 out → a + 1 < length from → 1 ≤ k → k < length to → IsRowOf out (length to) a one → slice_index one 0 ≤ slice_index one k
floor_out from to out one a k f high low wide is =
    let bound = f a k (omega arith) (omega arith) low (omega arith) in
    let x = is 0 (omega arith) in
    let y = is k wide in
    omega arith

pub floor_into : (from to into one : List ℕ) (a k : ℕ) → AreFloors from to 1 0 into → 1 ≤ a → a < length from → k + 1 < length to → IsRowOf into (length to) a one
    → slice_index one (length to - 1) ≤ slice_index one k
floor_into from to into one a k f low high wide is =
    let bound = f a k low (omega arith) (omega arith) (omega arith) in
    let x = is (length to - 1) (omega arith) in
    let y = is k (omega arith) in
    omega arith

-- what a row knows of its costs, by numbers
pub shift_tabled : (s : Setting) (view : ViewState) (mv : Move) (t : Table) (from to from_edges to_edges into out comes goes : List ℕ) (p m o at gained : ℕ)
    → IsSaving s view mv (shift_lost t from to p m o at) (shift_gained t from to p m o at)
    → 1 ≤ p → 1 ≤ m → p + m < length from → 1 ≤ at → at + o < length to
    → AreEdges t from from_edges → AreEdges t to to_edges → AreHopsFrom true t from to 1 0 into → AreHopsFrom false t from to 0 1 out
    → IsRowOf into (length to) p comes → IsRowOf out (length to) (p + m - 1) goes
    → gained ≡ hop t (slice_index from (p - 1)) (slice_index from (p + m))
    → IsSaving s view mv (slice_index from_edges (p - 1) + slice_index from_edges (p + m - 1) + slice_index to_edges (at + o - 1))
    (gained + slice_index comes (at + o - 1) + slice_index goes (at + o))
shift_tabled s view mv t from to from_edges to_edges into out comes goes p m o at gained saving lp lm hp la ha fe te back on r1 r2 e =
    let i = row_into t from to into comes p back lp (omega arith) r1 in
    let u = row_out t from to out goes (p + m - 1) on (omega arith) r2 in
    let z : at - 1 + o ≡ at + o - 1 = omega arith in
    let x1 = edge_at t from from_edges p fe lp (omega arith) in
    let x2 = edge_at t from from_edges (p + m) fe (omega arith) hp in
    let x3 = edge_at t to to_edges (at + o) te (omega arith) ha in
    let x4 = i (at + o - 1) (omega arith) (omega arith) in
    let x5 = u (at + o) (omega arith) (omega arith) in
    let y3 : hop t (slice_index to (at - 1 + o)) (slice_index to (at + o)) ≡ hop t (slice_index to (at + o - 1)) (slice_index to (at + o)) = ap (λ (n : ℕ). hop t (slice_index to n) (slice_index to (at + o))) z in
    let y4 : hop t (slice_index to (at - 1 + o)) (slice_index from p) ≡ hop t (slice_index to (at + o - 1)) (slice_index from p) = ap (λ (n : ℕ). hop t (slice_index to n) (slice_index from p)) z in
    omega arith

pub swap_tabled : (s : Setting) (view : ViewState) (mv : Move) (t : Table) (from to from_edges to_edges out into before here next back : List ℕ) (p q : ℕ)
    → IsSaving s view mv (swap_lost t from to p q) (swap_gained t from to p q)
    → 1 ≤ p → p + 1 < length from → 1 ≤ q → q + 1 < length to
    → AreEdges t from from_edges → AreEdges t to to_edges → AreHopsFrom false t from to 0 1 out → AreHopsFrom true t from to 1 0 into
    → IsRowOf out (length to) (p - 1) before → IsRowOf out (length to) p here → IsRowOf into (length to) (p + 1) next → IsRowOf into (length to) p back
    → IsSaving s view mv (slice_index from_edges (p - 1) + slice_index from_edges p + slice_index to_edges (q - 1) + slice_index to_edges q)
    (slice_index before q + slice_index next q + slice_index back (q - 1) + slice_index here (q + 1))
swap_tabled s view mv t from to from_edges to_edges out into before here next back p q saving lp hp lq hq fe te on turned r1 r2 r3 r4 =
    let b = row_out t from to out before (p - 1) on (omega arith) r1 in
    let h = row_out t from to out here p on hp r2 in
    let n = row_into t from to into next (p + 1) turned (omega arith) hp r3 in
    let k = row_into t from to into back p turned lp (omega arith) r4 in
    let fc = fe.counted in
    let tc = te.counted in
    let x1 = edge_at t from from_edges p fe lp (omega arith) in
    let x2 = fe.hops p (omega arith) in
    let x3 = edge_at t to to_edges q te lq (omega arith) in
    let x4 = te.hops q (omega arith) in
    let x5 = b q (omega arith) (omega arith) in
    let x6 = n q (omega arith) (omega arith) in
    let x7 = k (q - 1) (omega arith) (omega arith) in
    let x8 = h (q + 1) (omega arith) (omega arith) in
    omega arith

pub next_tabled : (s : Setting) (view : ViewState) (mv : Move) (t : Table) (from edges out into before here back : List ℕ) (p : ℕ)
    → IsSaving s view mv (next_lost t from p) (next_gained t from p) → 1 ≤ p → p + 2 < length from
    → AreEdges t from edges → AreHopsFrom false t from from 0 1 out → AreHopsFrom true t from from 1 0 into
    → IsRowOf out (length from) (p - 1) before → IsRowOf out (length from) p here → IsRowOf into (length from) p back
    → IsSaving s view mv (slice_index edges (p - 1) + slice_index edges p + slice_index edges (p + 1))
    (slice_index before (p + 1) + slice_index back (p + 1) + slice_index here (p + 2))
next_tabled s view mv t from edges out into before here back p saving lp hp fe on turned r1 r2 r3 =
    let b = row_out t from from out before (p - 1) on (omega arith) r1 in
    let h = row_out t from from out here p on (omega arith) r2 in
    let k = row_into t from from into back p turned lp (omega arith) r3 in
    let fc = fe.counted in
    let z : p + 1 + 1 ≡ p + 2 = omega arith in
    let x1 = edge_at t from edges p fe lp (omega arith) in
    let x2 = fe.hops p (omega arith) in
    let x3 : slice_index edges (p + 1) ≡ hop t (slice_index from (p + 1)) (slice_index from (p + 2)) =
    fe.hops (p + 1) (omega arith) ∙ ap (λ (n : ℕ). hop t (slice_index from (p + 1)) (slice_index from n)) z in
    let x4 = b (p + 1) (omega arith) (omega arith) in
    let x5 = k (p + 1) (omega arith) (omega arith) in
    let x6 = h (p + 2) (omega arith) (omega arith) in
    omega arith

pub cross_tabled : (s : Setting) (view : ViewState) (mv : Move) (t : Table) (from to from_edges to_edges out into here next : List ℕ) (k l : ℕ)
    → IsSaving s view mv (cross_lost t from to k l) (cross_gained t from to k l) → k + 1 < length from → l + 1 < length to
    → AreEdges t from from_edges → AreEdges t to to_edges → AreHopsFrom false t from to 0 1 out → AreHopsFrom true t from to 1 0 into
    → IsRowOf out (length to) k here → IsRowOf into (length to) (k + 1) next
    → IsSaving s view mv (slice_index from_edges k + slice_index to_edges l) (slice_index here (l + 1) + slice_index next l)
cross_tabled s view mv t from to from_edges to_edges out into here next k l saving hk hl fe te on turned r1 r2 =
    let h = row_out t from to out here k on hk r1 in
    let n = row_into t from to into next (k + 1) turned (omega arith) hk r2 in
    let fc = fe.counted in
    let tc = te.counted in
    let x1 = fe.hops k (omega arith) in
    let x2 = te.hops l (omega arith) in
    let x3 = h (l + 1) (omega arith) (omega arith) in
    let x4 = n l (omega arith) (omega arith) in
    omega arith

pub reverse_tabled : (s : Setting) (view : ViewState) (mv : Move) (t : Table) (from edges sums back_sums out before here : List ℕ) (i j : ℕ)
    → IsSaving s view mv (reverse_lost t from i j) (reverse_gained t from i j) → 1 ≤ i → i < j → j + 1 < length from
    → AreEdges t from edges → AreSums false t from (length from - 1) sums → AreSums true t from (length from - 1) back_sums
    → AreHopsFrom false t from from 0 1 out → IsRowOf out (length from) (i - 1) before → IsRowOf out (length from) i here
    → IsSaving s view mv (slice_index edges (i - 1) + slice_index back_sums i + slice_index sums j + slice_index edges j)
    (slice_index sums i + slice_index before j + slice_index back_sums j + slice_index here (j + 1))
reverse_tabled s view mv t from edges sums back_sums out before here i j saving li order hj fe f g on r1 r2 =
    let b = row_out t from from out before (i - 1) on (omega arith) r1 in
    let h = row_out t from from out here i on (omega arith) r2 in
    let fc = fe.counted in
    let x1 = edge_at t from edges i fe li (omega arith) in
    let x2 = fe.hops j (omega arith) in
    let x3 = f.sums i li (omega arith) in
    let x4 = f.sums j (omega arith) (omega arith) in
    let x5 = g.sums i li (omega arith) in
    let x6 = g.sums j (omega arith) (omega arith) in
    let x7 = b j (omega arith) (omega arith) in
    let x8 = h (j + 1) (omega arith) (omega arith) in
    omega arith
