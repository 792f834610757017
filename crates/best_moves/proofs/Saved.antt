-- What moves can be made, and what they save, by what is gathered.
use Rattle.std.proofs.Common.{◌≡◌, ◌≢◌, ◌∙◌, ℕ, ◌+◌, ◌-◌, ◌*◌, ◌<◌, ◌≤◌, ◌⊎◌, ap, arith, sym, subst, List, ◌∷◌, length, slice_index, true, false}
use Rattle.plan_core.specs.Plan.{route_at}
use Rattle.move_core.specs.declared.moves.Move.TheVariants.{Shift, Swap, Reverse, Cross}
use Rattle.way_costs.specs.Ways.{hop, stops, AreEdges, AreHopsFrom}
use Rattle.best_moves.specs.declared.searched.Gathered.{Gathered}
use Rattle.best_moves.specs.Searched.{Searched, AreSummed, IsGathered, IsPossible, IsSearch, Saves, costs_of, new_cost, old_cost}
use Rattle.best_moves.proofs.Possible.{cross_can, reverse_can, shift_can, shift_inside_can, swap_can}
use Rattle.best_moves.proofs.Tabled.{cross_tabled, floor_into, floor_out, next_tabled, reverse_tabled, room_from, shift_tabled, swap_tabled, way_out, IsRowOf}

module _ (q : Searched) (is : IsSearch q) (g : Gathered) (are : IsGathered q g) where
  -- rows lie inside their tables
  pub out_room : (a : ℕ) → a < length g.from.now → a * length g.to.now + length g.to.now ≤ length g.out.now
  out_room a h = room_from false (costs_of q) g.from.now g.to.now g.out.now 0 1 a are.out h

  pub into_room : (a : ℕ) → a < length g.from.now → a * length g.to.now + length g.to.now ≤ length g.into.now
  into_room a h = room_from true (costs_of q) g.from.now g.to.now g.into.now 1 0 a are.into h

  -- shifts to another vehicle
  pub shift_possible : (p m at : ℕ) → q.v ≢ q.w → 1 ≤ p → 1 ≤ m → p + m < length g.from.now → 1 ≤ at → at < length g.to.now → IsPossible q (Shift q.v p m q.w at)
  shift_possible p m at apart low some fit l h =
      shift_can is.laws q.setting.customers q.view.routes q.v p m q.w at g.from.now g.to.now are.from are.to apart low some fit l h

  pub shift_saved : (p m at gained : ℕ) (comes goes : List ℕ) → q.v ≢ q.w → 1 ≤ p → 1 ≤ m → p + m < length g.from.now → 1 ≤ at → at < length g.to.now
      → IsRowOf g.into.now (length g.to.now) p comes → IsRowOf g.out.now (length g.to.now) (p + m - 1) goes
      → gained ≡ hop (costs_of q) (slice_index g.from.now (p - 1)) (slice_index g.from.now (p + m))
      → Saves q (Shift q.v p m q.w at) (slice_index g.from_edges.now (p - 1) + slice_index g.from_edges.now (p + m - 1) + slice_index g.to_edges.now (at + 0 - 1))
      (gained + slice_index comes (at + 0 - 1) + slice_index goes (at + 0))
  shift_saved p m at gained comes goes apart low some fit l h c o e =
      shift_tabled q.setting q.view (Shift q.v p m q.w at) (costs_of q) g.from.now g.to.now g.from_edges.now g.to_edges.now g.into.now g.out.now comes goes p m 0 at gained
      (is.laws.saves.shift q.setting q.view q.v p m q.w at g.from.now g.to.now is.view.plan apart are.from are.to (shift_possible p m at apart low some fit l h))
      low some fit l (omega arith) are.from_edges are.to_edges are.into are.out c o e

  -- the most that such a shift gains
  pub shift_most : (p m at gained : ℕ) (comes goes : List ℕ) → q.v ≢ q.w → 1 ≤ p → 1 ≤ m → p + m < length g.from.now → 1 ≤ at → at < length g.to.now
      → IsRowOf g.into.now (length g.to.now) p comes → IsRowOf g.out.now (length g.to.now) (p + m - 1) goes
      → gained ≡ hop (costs_of q) (slice_index g.from.now (p - 1)) (slice_index g.from.now (p + m))
      → old_cost q + (gained + slice_index goes 0 + slice_index comes (length g.to.now - 1))
      ≤ new_cost q (Shift q.v p m q.w at) + (slice_index g.from_edges.now (p - 1) + slice_index g.from_edges.now (p + m - 1) + g.most)
  shift_most p m at gained comes goes apart low some fit l h c o e =
      let saved = shift_saved p m at gained comes goes apart low some fit l h c o e in
      let counted = are.to_edges.counted in
      let arrives : slice_index comes (length g.to.now - 1) ≤ slice_index comes (at + 0 - 1) =
      floor_into g.from.now g.to.now g.into.now comes p (at + 0 - 1) (are.into_floors apart) (omega arith) (omega arith) (omega arith) c in
      let leaves : slice_index goes 0 ≤ slice_index goes (at + 0) =
      floor_out g.from.now g.to.now g.out.now goes (p + m - 1) (at + 0) (are.out_floors apart) (omega arith) (omega arith) (omega arith) o in
      let dearest = are.most (at + 0 - 1) 0 (omega arith) in
      omega arith

  -- swaps with a customer of another vehicle
  pub swap_possible : (p at : ℕ) → (q.v ≡ q.w → p ≢ at) → 1 ≤ p → p + 1 < length g.from.now → 1 ≤ at → at + 1 < length g.to.now → IsPossible q (Swap q.v p q.w at)
  swap_possible p at apart low fit l h =
      swap_can is.laws q.setting.customers q.view.routes q.v p q.w at g.from.now g.to.now are.from are.to apart low fit l h

  pub swap_saved : (p at : ℕ) (before here next back : List ℕ) → q.v ≢ q.w → 1 ≤ p → p + 1 < length g.from.now → 1 ≤ at → at + 1 < length g.to.now
      → IsRowOf g.out.now (length g.to.now) (p - 1) before → IsRowOf g.out.now (length g.to.now) p here
      → IsRowOf g.into.now (length g.to.now) (p + 1) next → IsRowOf g.into.now (length g.to.now) p back
      → Saves q (Swap q.v p q.w at) (slice_index g.from_edges.now (p - 1) + slice_index g.from_edges.now p + slice_index g.to_edges.now (at - 1) + slice_index g.to_edges.now at)
      (slice_index before at + slice_index next at + slice_index back (at - 1) + slice_index here (at + 1))
  swap_saved p at before here next back apart low fit l h b o n k =
      swap_tabled q.setting q.view (Swap q.v p q.w at) (costs_of q) g.from.now g.to.now g.from_edges.now g.to_edges.now g.out.now g.into.now before here next back p at
      (is.laws.saves.swap q.setting q.view q.v p q.w at g.from.now g.to.now is.view.plan apart are.from are.to (swap_possible p at (λ e. absurd (apart e)) low fit l h))
      low fit l h are.from_edges are.to_edges are.out are.into b o n k

  -- the most that such a swap gains
  pub swap_most : (p at : ℕ) (before here next back : List ℕ) → q.v ≢ q.w → 1 ≤ p → p + 1 < length g.from.now → 1 ≤ at → at + 1 < length g.to.now
      → IsRowOf g.out.now (length g.to.now) (p - 1) before → IsRowOf g.out.now (length g.to.now) p here
      → IsRowOf g.into.now (length g.to.now) (p + 1) next → IsRowOf g.into.now (length g.to.now) p back
      → old_cost q + (slice_index before 0 + slice_index here 0 + slice_index next (length g.to.now - 1) + slice_index back (length g.to.now - 1))
      ≤ new_cost q (Swap q.v p q.w at) + (slice_index g.from_edges.now (p - 1) + slice_index g.from_edges.now p + 2 * g.most)
  swap_most p at before here next back apart low fit l h b o n k =
      let saved = swap_saved p at before here next back apart low fit l h b o n k in
      let counted = are.to_edges.counted in
      let x1 : slice_index before 0 ≤ slice_index before at =
      floor_out g.from.now g.to.now g.out.now before (p - 1) at (are.out_floors apart) (omega arith) (omega arith) (omega arith) b in
      let x2 : slice_index here 0 ≤ slice_index here (at + 1) =
      floor_out g.from.now g.to.now g.out.now here p (at + 1) (are.out_floors apart) (omega arith) (omega arith) (omega arith) o in
      let x3 : slice_index next (length g.to.now - 1) ≤ slice_index next at =
      floor_into g.from.now g.to.now g.into.now next (p + 1) at (are.into_floors apart) (omega arith) (omega arith) (omega arith) n in
      let x4 : slice_index back (length g.to.now - 1) ≤ slice_index back (at - 1) =
      floor_into g.from.now g.to.now g.into.now back p (at - 1) (are.into_floors apart) (omega arith) (omega arith) (omega arith) k in
      let dearest = are.most (at - 1) 0 (omega arith) in
      let dearest2 = are.most at 0 (omega arith) in
      omega arith

  -- crosses
  pub cross_possible : (k l : ℕ) → q.v ≢ q.w → k + 1 < length g.from.now → l + 1 < length g.to.now
      → (k < length (route_at q.view.routes q.v)) ⊎ (l < length (route_at q.view.routes q.w)) → IsPossible q (Cross q.v k q.w l)
  cross_possible k l apart fit few some = cross_can is.laws q.setting.customers q.view.routes q.v k q.w l g.from.now g.to.now are.from are.to apart fit few some

  pub cross_saved : (k l : ℕ) (here next : List ℕ) → k + 1 < length g.from.now → l + 1 < length g.to.now → IsPossible q (Cross q.v k q.w l)
      → IsRowOf g.out.now (length g.to.now) k here → IsRowOf g.into.now (length g.to.now) (k + 1) next
      → Saves q (Cross q.v k q.w l) (slice_index g.from_edges.now k + slice_index g.to_edges.now l) (slice_index here (l + 1) + slice_index next l)
  cross_saved k l here next fit few can o n =
      cross_tabled q.setting q.view (Cross q.v k q.w l) (costs_of q) g.from.now g.to.now g.from_edges.now g.to_edges.now g.out.now g.into.now here next k l
      (is.laws.saves.cross q.setting q.view q.v k q.w l g.from.now g.to.now is.view.plan are.from are.to can) fit few are.from_edges are.to_edges are.out are.into o n

  -- the most that a cross gains
  pub cross_most : (k l : ℕ) (here next : List ℕ) → q.v ≢ q.w → k + 1 < length g.from.now → l + 1 < length g.to.now → IsPossible q (Cross q.v k q.w l)
      → IsRowOf g.out.now (length g.to.now) k here → IsRowOf g.into.now (length g.to.now) (k + 1) next
      → old_cost q + (slice_index here 0 + slice_index next (length g.to.now - 1)) ≤ new_cost q (Cross q.v k q.w l) + (slice_index g.from_edges.now k + g.most)
  cross_most k l here next apart fit few can o n =
      let saved = cross_saved k l here next fit few can o n in
      let counted = are.to_edges.counted in
      let x1 : slice_index here 0 ≤ slice_index here (l + 1) =
      floor_out g.from.now g.to.now g.out.now here k (l + 1) (are.out_floors apart) (omega arith) (omega arith) (omega arith) o in
      let x2 : slice_index next (length g.to.now - 1) ≤ slice_index next l =
      floor_into g.from.now g.to.now g.into.now next (k + 1) l (are.into_floors apart) (omega arith) (omega arith) (omega arith) n in
      let dearest = are.most l 0 (omega arith) in
      omega arith

-- Inside one vehicle, whose stops are those of both.
module _ (q : Searched) (is : IsSearch q) (g : Gathered) (are : IsGathered q g) (same : q.v ≡ q.w) where
  pub same_stops : g.to.now ≡ g.from.now
  same_stops = are.to.is ∙ ap (λ (k : ℕ). 0 ∷ stops (route_at q.view.routes k)) (sym same) ∙ sym are.from.is

  edges : AreEdges (costs_of q) g.from.now g.to_edges.now
  edges = subst (λ (z : List ℕ). AreEdges (costs_of q) z g.to_edges.now) same_stops are.to_edges

  out : AreHopsFrom false (costs_of q) g.from.now g.from.now 0 1 g.out.now
  out = subst (λ (z : List ℕ). AreHopsFrom false (costs_of q) g.from.now z 0 1 g.out.now) same_stops are.out

  into : AreHopsFrom true (costs_of q) g.from.now g.from.now 1 0 g.into.now
  into = subst (λ (z : List ℕ). AreHopsFrom true (costs_of q) g.from.now z 1 0 g.into.now) same_stops are.into

  pub out_room_inside : (a : ℕ) → a < length g.from.now → a * length g.from.now + length g.from.now ≤ length g.out.now
  out_room_inside a h = room_from false (costs_of q) g.from.now g.from.now g.out.now 0 1 a out h

  pub into_room_inside : (a : ℕ) → a < length g.from.now → a * length g.from.now + length g.from.now ≤ length g.into.now
  into_room_inside a h = room_from true (costs_of q) g.from.now g.from.now g.into.now 1 0 a into h

  pub edges_inside : length g.to_edges.now + 1 ≡ length g.from.now
  edges_inside = edges.counted

  -- shifts
  inside_can : (p m at : ℕ) → 1 ≤ p → 1 ≤ m → p + m < length g.from.now → 1 ≤ at → at + m < length g.from.now → at ≢ p → IsPossible q (Shift q.v p m q.v at)
  inside_can p m at low some fit l h moves = shift_inside_can is.laws q.setting.customers q.view.routes q.v p m at g.from.now are.from low some fit l h moves

  pub shift_inside_possible : (p m at : ℕ) → 1 ≤ p → 1 ≤ m → p + m < length g.from.now → 1 ≤ at → at + m < length g.from.now → at ≢ p → IsPossible q (Shift q.v p m q.w at)
  shift_inside_possible p m at low some fit l h moves = subst (λ (z : ℕ). IsPossible q (Shift q.v p m z at)) same (inside_can p m at low some fit l h moves)

  pub forwards_saved : (p m at : ℕ) (comes goes closes : List ℕ) → 1 ≤ p → 1 ≤ m → p + m < length g.from.now → 1 ≤ at → at < p
      → IsRowOf g.into.now (length g.from.now) p comes → IsRowOf g.out.now (length g.from.now) (p + m - 1) goes → IsRowOf g.out.now (length g.from.now) (p - 1) closes
      → Saves q (Shift q.v p m q.w at) (slice_index g.to_edges.now (p - 1) + slice_index g.to_edges.now (p + m - 1) + slice_index g.to_edges.now (at + 0 - 1))
      (slice_index closes (p + m) + slice_index comes (at + 0 - 1) + slice_index goes (at + 0))
  forwards_saved p m at comes goes closes low some fit l h c o b =
      subst (λ (z : ℕ). Saves q (Shift q.v p m z at) (slice_index g.to_edges.now (p - 1) + slice_index g.to_edges.now (p + m - 1) + slice_index g.to_edges.now (at + 0 - 1)) (slice_index closes (p + m) + slice_index comes (at + 0 - 1) + slice_index goes (at + 0))) same
      (shift_tabled q.setting q.view (Shift q.v p m q.v at) (costs_of q) g.from.now g.from.now g.to_edges.now g.to_edges.now g.into.now g.out.now comes goes p m 0 at (slice_index closes (p + m))
      (is.laws.saves.forwards q.setting q.view q.v p m at g.from.now is.view.plan are.from (inside_can p m at low some fit l (omega arith) (λ e. omega arith)) h)
      low some fit l (omega arith) edges edges into out c o
      (way_out (costs_of q) g.from.now g.out.now closes p m out low fit b))

  pub backwards_saved : (p m at : ℕ) (comes goes closes : List ℕ) → 1 ≤ p → 1 ≤ m → p + m < length g.from.now → p < at → at + m < length g.from.now
      → IsRowOf g.into.now (length g.from.now) p comes → IsRowOf g.out.now (length g.from.now) (p + m - 1) goes → IsRowOf g.out.now (length g.from.now) (p - 1) closes
      → Saves q (Shift q.v p m q.w at) (slice_index g.to_edges.now (p - 1) + slice_index g.to_edges.now (p + m - 1) + slice_index g.to_edges.now (at + m - 1))
      (slice_index closes (p + m) + slice_index comes (at + m - 1) + slice_index goes (at + m))
  backwards_saved p m at comes goes closes low some fit l h c o b =
      subst (λ (z : ℕ). Saves q (Shift q.v p m z at) (slice_index g.to_edges.now (p - 1) + slice_index g.to_edges.now (p + m - 1) + slice_index g.to_edges.now (at + m - 1)) (slice_index closes (p + m) + slice_index comes (at + m - 1) + slice_index goes (at + m))) same
      (shift_tabled q.setting q.view (Shift q.v p m q.v at) (costs_of q) g.from.now g.from.now g.to_edges.now g.to_edges.now g.into.now g.out.now comes goes p m m at (slice_index closes (p + m))
      (is.laws.saves.backwards q.setting q.view q.v p m at g.from.now is.view.plan are.from (inside_can p m at low some fit (omega arith) h (λ e. omega arith)) l)
      low some fit (omega arith) h edges edges into out c o
      (way_out (costs_of q) g.from.now g.out.now closes p m out low fit b))

  -- swaps with a customer that is no neighbour, and with the next one
  swap_inside_can : (p at : ℕ) → p < at → 1 ≤ p → at + 1 < length g.from.now → IsPossible q (Swap q.v p q.v at)
  swap_inside_can p at order low h =
      swap_can is.laws q.setting.customers q.view.routes q.v p q.v at g.from.now g.from.now are.from are.from (λ e k. omega arith) low (omega arith) (omega arith) h

  pub swap_inside_possible : (p at : ℕ) → p < at → 1 ≤ p → at + 1 < length g.from.now → IsPossible q (Swap q.v p q.w at)
  swap_inside_possible p at order low h = subst (λ (z : ℕ). IsPossible q (Swap q.v p z at)) same (swap_inside_can p at order low h)

  pub swap_inside_saved : (p at : ℕ) (before here next back : List ℕ) → 1 ≤ p → p + 1 < at → at + 1 < length g.from.now
      → IsRowOf g.out.now (length g.from.now) (p - 1) before → IsRowOf g.out.now (length g.from.now) p here
      → IsRowOf g.into.now (length g.from.now) (p + 1) next → IsRowOf g.into.now (length g.from.now) p back
      → Saves q (Swap q.v p q.w at) (slice_index g.to_edges.now (p - 1) + slice_index g.to_edges.now p + slice_index g.to_edges.now (at - 1) + slice_index g.to_edges.now at)
      (slice_index before at + slice_index next at + slice_index back (at - 1) + slice_index here (at + 1))
  swap_inside_saved p at before here next back low l h b o n k =
      subst (λ (z : ℕ). Saves q (Swap q.v p z at) (slice_index g.to_edges.now (p - 1) + slice_index g.to_edges.now p + slice_index g.to_edges.now (at - 1) + slice_index g.to_edges.now at) (slice_index before at + slice_index next at + slice_index back (at - 1) + slice_index here (at + 1))) same
      (swap_tabled q.setting q.view (Swap q.v p q.v at) (costs_of q) g.from.now g.from.now g.to_edges.now g.to_edges.now g.out.now g.into.now before here next back p at
      (is.laws.saves.swap_inside q.setting q.view q.v p at g.from.now is.view.plan are.from (swap_inside_can p at (omega arith) low h) l)
      low (omega arith) (omega arith) h edges edges out into b o n k)

  pub next_saved : (p : ℕ) (before here back : List ℕ) → 1 ≤ p → p + 2 < length g.from.now
      → IsRowOf g.out.now (length g.from.now) (p - 1) before → IsRowOf g.out.now (length g.from.now) p here → IsRowOf g.into.now (length g.from.now) p back
      → Saves q (Swap q.v p q.w (p + 1)) (slice_index g.to_edges.now (p - 1) + slice_index g.to_edges.now p + slice_index g.to_edges.now (p + 1))
      (slice_index before (p + 1) + slice_index back (p + 1) + slice_index here (p + 2))
  next_saved p before here back low h b o k =
      subst (λ (z : ℕ). Saves q (Swap q.v p z (p + 1)) (slice_index g.to_edges.now (p - 1) + slice_index g.to_edges.now p + slice_index g.to_edges.now (p + 1)) (slice_index before (p + 1) + slice_index back (p + 1) + slice_index here (p + 2))) same
      (next_tabled q.setting q.view (Swap q.v p q.v (p + 1)) (costs_of q) g.from.now g.to_edges.now g.out.now g.into.now before here back p
      (is.laws.saves.swap_next q.setting q.view q.v p g.from.now is.view.plan are.from (swap_inside_can p (p + 1) (omega arith) low (omega arith)))
      low h edges out into b o k)

  -- reverses
  pub reverse_possible : (i j : ℕ) → 1 ≤ i → i < j → j + 1 < length g.from.now → IsPossible q (Reverse q.v i j)
  reverse_possible i j low order h = reverse_can is.laws q.setting.customers q.view.routes q.v i j g.from.now are.from low order h

  pub reverse_saved : (i j : ℕ) (sums back_sums before here : List ℕ) → 1 ≤ i → i < j → j + 1 < length g.from.now → AreSummed q g sums back_sums
      → IsRowOf g.out.now (length g.from.now) (i - 1) before → IsRowOf g.out.now (length g.from.now) i here
      → Saves q (Reverse q.v i j) (slice_index g.to_edges.now (i - 1) + slice_index back_sums i + slice_index sums j + slice_index g.to_edges.now j)
      (slice_index sums i + slice_index before j + slice_index back_sums j + slice_index here (j + 1))
  reverse_saved i j sums back_sums before here low order h summed b o =
      reverse_tabled q.setting q.view (Reverse q.v i j) (costs_of q) g.from.now g.to_edges.now sums back_sums g.out.now before here i j
      (is.laws.saves.reverse q.setting q.view q.v i j g.from.now is.view.plan are.from (reverse_possible i j low order h)) low order h edges summed.sums summed.back_sums out b o
