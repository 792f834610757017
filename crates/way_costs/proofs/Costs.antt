use Rattle.std.proofs.Common.{◌≡◌, ◌≢◌, ◌∙◌, ℕ, suc, ◌+◌, ◌-◌, ◌<◌, ◌≤◌, refl, sym, ap, subst, arith, List, [], ◌∷◌, ◌++◌, length, take, drop, reverse, slice_index, slice_get, slice_set, Some, true, append_assoc}
use Rattle.std.proofs.lemmas.Bool.{ne_eqb, eq-eqb}
use Rattle.std.proofs.lemmas.List.{length-set, length-append, length-take-le, length-drop}
use Rattle.std.proofs.lemmas.Option.{slice_get-get_or}
use Rattle.callback_store.specs.Tables.{Table, table_at}
use Rattle.dimension_core.specs.Setting.{Setting}
use Rattle.plan_core.specs.Plan.{Changes, IsPlan, AreApart, route_at, with_routes}
use Rattle.plan_core.specs.Cost.{way, cost_of}
use Rattle.pin_core.specs.View.{ViewState}
use Rattle.move_core.specs.declared.moves.Move.{Move}
use Rattle.move_core.specs.declared.moves.Move.TheVariants.{Shift, Swap, Reverse, Cross}
use Rattle.move_core.specs.Moves.{is_possible, changes_by, effect, without, with_stretch, stretch, with_customer, customer_at, reversed_within, crossed}
use Rattle.way_costs.specs.Ways.{hop, stops, stop_at, turned, along}
use Rattle.way_costs.specs.Savings.{shift_lost, shift_gained, swap_lost, swap_gained, next_lost, next_gained, cross_lost, cross_gained, reverse_lost, reverse_gained}
use Rattle.way_costs.specs.Costs.{IsSaving}
use Rattle.way_costs.proofs.Below.{Laws}
use Rattle.way_costs.proofs.WayParts.{AreNodes, route_by_hops, moved_ways, moved_within, without_stops, with_stops, stretch_stops, take_stops, drop_stops, stop_from, stop_is, replaced_way, set_stops, crossed_ways, crossed_stops, set_stop_same, set_stop_other, without_stop_before, without_stop_after}
use Rattle.way_costs.proofs.Reversals.{reversed_ways}

-- the effect of a move that is possible
pub has_effect : (n : ℕ) (routes : List (List ℕ)) (mv : Move) → is_possible n routes mv ≡ true → effect n routes mv ≡ Some (changes_by routes mv)
has_effect n routes mv can = rw can refl

next_stop : (r : List ℕ) (k : ℕ) → slice_index (stops r) k ≡ stop_at r (k + 1)
next_stop r k = let e : k + 1 ≡ suc k = omega arith in sym (ap (stop_at r) e)

-- the customers of a plan are no depot
pub plan_nodes : (n : ℕ) (routes : List (List ℕ)) (v : ℕ) → IsPlan n routes → 1 ≤ v → v ≤ length routes → AreNodes (route_at routes v)
plan_nodes n routes v plan low high k h =
    let back : k + 1 - 1 ≡ k = omega arith in
    let found : slice_get (route_at routes v) (k + 1 - 1) ≡ Some (slice_index (route_at routes v) k) =
    ap (λ (i : ℕ). slice_get (route_at routes v) i) back ∙ slice_get-get_or (route_at routes v) k 0 h in
    (plan.known (slice_index (route_at routes v) k) v (k + 1) (record { low = low; high = high; place = omega arith; found = found })).0

-- a shift between two routes, and inside one, by the ways of their stops
between_ways : (t : Table) (r q : List ℕ) (p n at : ℕ) → 1 ≤ p → 1 ≤ n → p + n ≤ length r + 1 → 1 ≤ at → at ≤ length q + 1
    → way (hop t) 0 (stops (without r p n)) + way (hop t) 0 (stops (with_stretch q at (stretch r p n))) + shift_lost t (0 ∷ stops r) (0 ∷ stops q) p n 0 at
    ≡ way (hop t) 0 (stops r) + way (hop t) 0 (stops q) + shift_gained t (0 ∷ stops r) (0 ∷ stops q) p n 0 at
between_ways t r q p n at lp ln hp la ha =
    let lr : length (stops r) ≡ length r + 1 = length-append r (0 ∷ []) in
    let lq : length (stops q) ≡ length q + 1 = length-append q (0 ∷ []) in
    let law = moved_ways (hop t) (stops r) (stops q) (p - 1) n (at - 1) ln (omega arith) (omega arith) in
    let e1 : way (hop t) 0 (stops (without r p n)) ≡ way (hop t) 0 (take (p - 1) (stops r) ++ drop (p - 1 + n) (stops r)) =
    ap (way (hop t) 0) (without_stops r (p - 1) n (omega arith)) in
    let e2 : way (hop t) 0 (stops (with_stretch q at (stretch r p n))) ≡ way (hop t) 0 (take (at - 1) (stops q) ++ (take n (drop (p - 1) (stops r)) ++ drop (at - 1) (stops q))) =
    ap (way (hop t) 0) (with_stops q (at - 1) (stretch r p n) (omega arith)
    ∙ ap (λ (s : List ℕ). take (at - 1) (stops q) ++ (s ++ drop (at - 1) (stops q))) (sym (stretch_stops r (p - 1) n (omega arith)))) in
    let s1 : slice_index (stops r) (p - 1) ≡ stop_at r p = stop_from r p lp in
    let s2 : slice_index (stops r) (p - 1 + n) ≡ stop_at r (p + n) =
    let e : p - 1 + n ≡ p + n - 1 = omega arith in ap (slice_index (stops r)) e ∙ stop_from r (p + n) (omega arith) in
    let s3 : slice_index (stops q) (at - 1) ≡ stop_at q at = stop_from q at la in
    let s4 : slice_index (0 ∷ stops r) (p - 1 + n) ≡ stop_at r (p + n - 1) = let e : p - 1 + n ≡ p + n - 1 = omega arith in ap (stop_at r) e in
    let z1 : at - 1 + 0 ≡ at - 1 = omega arith in
    let z2 : at + 0 ≡ at = omega arith in
    rw (z1, z2, e1, e2, ← s1, ← s2, ← s3, ← s4) law

-- where the stops before and after the new place of the stretch stand in the route with the stretch
pub record AreAround (r : List ℕ) (p n o at : ℕ) : Type 0 where
  pub left : slice_index (0 ∷ (take (p - 1) (stops r) ++ drop (p - 1 + n) (stops r))) (at - 1) ≡ stop_at r (at - 1 + o)
  pub right : slice_index (0 ∷ (take (p - 1) (stops r) ++ drop (p - 1 + n) (stops r))) at ≡ stop_at r (at + o)

pub around_before : (r : List ℕ) (p n at : ℕ) → 1 ≤ p → p + n ≤ length r + 1 → at < p → AreAround r p n 0 at
around_before r p n at low high h =
    let z1 : at - 1 + 0 ≡ at - 1 = omega arith in
    let z2 : at + 0 ≡ at = omega arith in
    record {
      left = without_stop_before r p n (at - 1) low high (omega arith) ∙ sym (ap (stop_at r) z1);
      right = without_stop_before r p n at low high h ∙ sym (ap (stop_at r) z2);
    }

pub around_after : (r : List ℕ) (p n at : ℕ) → 1 ≤ p → p + n ≤ length r + 1 → p < at → AreAround r p n n at
around_after r p n at low high h = record {
  left = without_stop_after r p n (at - 1) low high (omega arith);
  right = without_stop_after r p n at low high (omega arith);
}

inside_way : (t : Table) (r : List ℕ) (p n o at : ℕ) → 1 ≤ p → 1 ≤ n → p + n ≤ length r + 1 → 1 ≤ at → at + n ≤ length r + 1 → AreAround r p n o at
    → way (hop t) 0 (stops (with_stretch (without r p n) at (stretch r p n))) + shift_lost t (0 ∷ stops r) (0 ∷ stops r) p n o at
    ≡ way (hop t) 0 (stops r) + shift_gained t (0 ∷ stops r) (0 ∷ stops r) p n o at
inside_way t r p n o at lp ln hp la ha around =
    let T : List ℕ = take (p - 1) (stops r) ++ drop (p - 1 + n) (stops r) in
    let lr : length (stops r) ≡ length r + 1 = length-append r (0 ∷ []) in
    let lt : length (take (p - 1) (stops r)) ≡ p - 1 = length-take-le (p - 1) (stops r) (omega arith) in
    let ld : length (drop (p - 1 + n) (stops r)) ≡ length (stops r) - (p - 1 + n) = length-drop (p - 1 + n) (stops r) in
    let la2 : length (take (p - 1) (stops r) ++ drop (p - 1 + n) (stops r)) ≡ length (take (p - 1) (stops r)) + length (drop (p - 1 + n) (stops r)) =
    length-append (take (p - 1) (stops r)) (drop (p - 1 + n) (stops r)) in
    let ltr : length (take (p - 1) r) ≡ p - 1 = length-take-le (p - 1) r (omega arith) in
    let ldr : length (drop (p - 1 + n) r) ≡ length r - (p - 1 + n) = length-drop (p - 1 + n) r in
    let lw : length (take (p - 1) r ++ drop (p - 1 + n) r) ≡ length (take (p - 1) r) + length (drop (p - 1 + n) r) = length-append (take (p - 1) r) (drop (p - 1 + n) r) in
    let law = moved_within (hop t) (stops r) (take (p - 1) (stops r) ++ drop (p - 1 + n) (stops r)) (p - 1) n (at - 1) ln (omega arith) refl (omega arith) in
    let whole : stops (without r p n) ≡ take (p - 1) (stops r) ++ drop (p - 1 + n) (stops r) = without_stops r (p - 1) n (omega arith) in
    let e : way (hop t) 0 (stops (with_stretch (without r p n) at (stretch r p n)))
    ≡ way (hop t) 0 (take (at - 1) (take (p - 1) (stops r) ++ drop (p - 1 + n) (stops r)) ++ (take n (drop (p - 1) (stops r)) ++ drop (at - 1) (take (p - 1) (stops r) ++ drop (p - 1 + n) (stops r)))) =
    ap (way (hop t) 0) (with_stops (without r p n) (at - 1) (stretch r p n) (omega arith)
    ∙ ap (λ (s : List ℕ). take (at - 1) (stops (without r p n)) ++ (s ++ drop (at - 1) (stops (without r p n)))) (sym (stretch_stops r (p - 1) n (omega arith)))
    ∙ ap (λ (s : List ℕ). take (at - 1) s ++ (take n (drop (p - 1) (stops r)) ++ drop (at - 1) s)) whole) in
    let s1 : slice_index (stops r) (p - 1) ≡ stop_at r p = stop_from r p lp in
    let s2 : slice_index (stops r) (p - 1 + n) ≡ stop_at r (p + n) =
    let u : p - 1 + n ≡ p + n - 1 = omega arith in ap (slice_index (stops r)) u ∙ stop_from r (p + n) (omega arith) in
    let s4 : slice_index (0 ∷ stops r) (p - 1 + n) ≡ stop_at r (p + n - 1) = let u : p - 1 + n ≡ p + n - 1 = omega arith in ap (stop_at r) u in
    let s5 : slice_index (take (p - 1) (stops r) ++ drop (p - 1 + n) (stops r)) (at - 1) ≡ stop_at r (at + o) =
    let u : suc (at - 1) ≡ at = omega arith in
    ap (λ (k : ℕ). slice_index (0 ∷ (take (p - 1) (stops r) ++ drop (p - 1 + n) (stops r))) k) u ∙ around.right in
    rw (e, ← s1, ← s2, ← s4, ← s5, ← around.left) law

-- a route with another customer at a place
replaced_at : (t : Table) (r : List ℕ) (p d : ℕ) → 1 ≤ p → p ≤ length r
    → way (hop t) 0 (stops (with_customer r p d)) + (hop t (stop_at r (p - 1)) (stop_at r p) + hop t (stop_at r p) (stop_at r (p + 1)))
    ≡ way (hop t) 0 (stops r) + (hop t (stop_at r (p - 1)) d + hop t d (stop_at r (p + 1)))
replaced_at t r p d low high =
    let lr : length (stops r) ≡ length r + 1 = length-append r (0 ∷ []) in
    let law = replaced_way (hop t) (stops r) (p - 1) d (omega arith) in
    let e : way (hop t) 0 (stops (with_customer r p d)) ≡ way (hop t) 0 (take (p - 1) (stops r) ++ (d ∷ drop (p - 1 + 1) (stops r))) =
    ap (way (hop t) 0) (set_stops r (p - 1) d (omega arith)) in
    let s1 : slice_index (stops r) (p - 1) ≡ stop_at r p = stop_from r p low in
    let s2 : slice_index (stops r) (p - 1 + 1) ≡ stop_at r (p + 1) = let u : p - 1 + 1 ≡ p = omega arith in ap (slice_index (stops r)) u ∙ next_stop r p in
    let x1 : hop t (stop_at r (p - 1)) (slice_index (stops r) (p - 1)) ≡ hop t (stop_at r (p - 1)) (stop_at r p) = ap (hop t (stop_at r (p - 1))) s1 in
    let x2 : hop t (slice_index (stops r) (p - 1)) (slice_index (stops r) (p - 1 + 1)) ≡ hop t (stop_at r p) (stop_at r (p + 1)) = ap (λ (x : ℕ). hop t x (slice_index (stops r) (p - 1 + 1))) s1 ∙ ap (hop t (stop_at r p)) s2 in
    let x3 : hop t d (slice_index (stops r) (p - 1 + 1)) ≡ hop t d (stop_at r (p + 1)) = ap (hop t d) s2 in
    omega arith

-- two customers of one route that change places
inner_swap : (t : Table) (r : List ℕ) (p q c d : ℕ) → 1 ≤ p → p + 1 < q → q ≤ length r → c ≡ stop_at r p → d ≡ stop_at r q
    → way (hop t) 0 (stops (with_customer (with_customer r p d) q c)) + swap_lost t (0 ∷ stops r) (0 ∷ stops r) p q
    ≡ way (hop t) 0 (stops r) + swap_gained t (0 ∷ stops r) (0 ∷ stops r) p q
inner_swap t r p q c d low order high ec ed =
    let long : length (slice_set r (p - 1) d) ≡ length r = length-set r (p - 1) d in
    let one = replaced_at t r p d low (omega arith) in
    let two = replaced_at t (with_customer r p d) q c (omega arith) (omega arith) in
    let s1 : stop_at (slice_set r (p - 1) d) (q - 1) ≡ stop_at r (q - 1) = set_stop_other r p (q - 1) d low (omega arith) (λ e. omega arith) in
    let s2 : stop_at (slice_set r (p - 1) d) q ≡ stop_at r q = set_stop_other r p q d low (omega arith) (λ e. omega arith) in
    let s3 : stop_at (slice_set r (p - 1) d) (q + 1) ≡ stop_at r (q + 1) = set_stop_other r p (q + 1) d low (omega arith) (λ e. omega arith) in
    let x1 : hop t (stop_at (slice_set r (p - 1) d) (q - 1)) (stop_at (slice_set r (p - 1) d) q) ≡ hop t (stop_at r (q - 1)) (stop_at r q) = rw (s1, s2) refl in
    let x2 : hop t (stop_at (slice_set r (p - 1) d) q) (stop_at (slice_set r (p - 1) d) (q + 1)) ≡ hop t (stop_at r q) (stop_at r (q + 1)) = rw (s2, s3) refl in
    let x3 : hop t (stop_at (slice_set r (p - 1) d) (q - 1)) c ≡ hop t (stop_at r (q - 1)) (stop_at r p) = rw (s1, ec) refl in
    let x4 : hop t c (stop_at (slice_set r (p - 1) d) (q + 1)) ≡ hop t (stop_at r p) (stop_at r (q + 1)) = rw (s3, ec) refl in
    let x5 : hop t (stop_at r (p - 1)) d ≡ hop t (stop_at r (p - 1)) (stop_at r q) = ap (hop t (stop_at r (p - 1))) ed in
    let x6 : hop t d (stop_at r (p + 1)) ≡ hop t (stop_at r q) (stop_at r (p + 1)) = ap (λ (x : ℕ). hop t x (stop_at r (p + 1))) ed in
    omega arith

next_swap : (t : Table) (r : List ℕ) (p c d : ℕ) → 1 ≤ p → p + 1 ≤ length r → c ≡ stop_at r p → d ≡ stop_at r (p + 1)
    → way (hop t) 0 (stops (with_customer (with_customer r p d) (p + 1) c)) + next_lost t (0 ∷ stops r) p
    ≡ way (hop t) 0 (stops r) + next_gained t (0 ∷ stops r) p
next_swap t r p c d low high ec ed =
    let long : length (slice_set r (p - 1) d) ≡ length r = length-set r (p - 1) d in
    let one = replaced_at t r p d low (omega arith) in
    let two = replaced_at t (with_customer r p d) (p + 1) c (omega arith) (omega arith) in
    let back : p + 1 - 1 ≡ p = omega arith in
    let more : p + 1 + 1 ≡ p + 2 = omega arith in
    let s1 : stop_at (slice_set r (p - 1) d) (p + 1 - 1) ≡ d = ap (stop_at (slice_set r (p - 1) d)) back ∙ set_stop_same r p d low (omega arith) in
    let s2 : stop_at (slice_set r (p - 1) d) (p + 1) ≡ d = set_stop_other r p (p + 1) d low (omega arith) (λ e. omega arith) ∙ sym ed in
    let s3 : stop_at (slice_set r (p - 1) d) (p + 1 + 1) ≡ stop_at r (p + 2) = set_stop_other r p (p + 1 + 1) d low (omega arith) (λ e. omega arith) ∙ ap (stop_at r) more in
    let x1 : hop t (stop_at (slice_set r (p - 1) d) (p + 1 - 1)) (stop_at (slice_set r (p - 1) d) (p + 1)) ≡ hop t d d = rw (s1, s2) refl in
    let x2 : hop t (stop_at (slice_set r (p - 1) d) (p + 1)) (stop_at (slice_set r (p - 1) d) (p + 1 + 1)) ≡ hop t d (stop_at r (p + 2)) = rw (s2, s3) refl in
    let x3 : hop t (stop_at (slice_set r (p - 1) d) (p + 1 - 1)) c ≡ hop t d c = rw s1 refl in
    let x4 : hop t c (stop_at (slice_set r (p - 1) d) (p + 1 + 1)) ≡ hop t c (stop_at r (p + 2)) = rw s3 refl in
    let y1 : hop t (stop_at r (p - 1)) d ≡ hop t (stop_at r (p - 1)) (stop_at r (p + 1)) = ap (hop t (stop_at r (p - 1))) ed in
    let y2 : hop t d (stop_at r (p + 1)) ≡ hop t d d = ap (hop t d) (sym ed) in
    let y3 : hop t d (stop_at r (p + 2)) ≡ hop t (stop_at r (p + 1)) (stop_at r (p + 2)) = ap (λ (x : ℕ). hop t x (stop_at r (p + 2))) ed in
    let y4 : hop t d c ≡ hop t (stop_at r (p + 1)) (stop_at r p) = ap (λ (x : ℕ). hop t x c) ed ∙ ap (hop t (stop_at r (p + 1))) ec in
    let y5 : hop t c (stop_at r (p + 2)) ≡ hop t (stop_at r p) (stop_at r (p + 2)) = ap (λ (x : ℕ). hop t x (stop_at r (p + 2))) ec in
    omega arith

-- a stretch that is driven back
reversed_stops : (r : List ℕ) (i m : ℕ) → i + m ≤ length r
    → stops (take i r ++ (reverse (take m (drop i r)) ++ drop (i + m) r)) ≡ take i (stops r) ++ (reverse (take m (drop i (stops r))) ++ drop (i + m) (stops r))
reversed_stops r i m h =
    append_assoc (take i r) (reverse (take m (drop i r)) ++ drop (i + m) r) (0 ∷ [])
    ∙ ap (λ (ys : List ℕ). take i r ++ ys) (append_assoc (reverse (take m (drop i r))) (drop (i + m) r) (0 ∷ []))
    ∙ ap (λ (ys : List ℕ). ys ++ (reverse (take m (drop i r)) ++ (drop (i + m) r ++ 0 ∷ []))) (sym (take_stops r i (omega arith)))
    ∙ ap (λ (ys : List ℕ). take i (stops r) ++ (reverse (take m (drop i r)) ++ ys)) (sym (drop_stops r (i + m) h))
    ∙ ap (λ (ys : List ℕ). take i (stops r) ++ (reverse ys ++ drop (i + m) (stops r))) (sym (stretch_stops r i m h))

reversed_way : (t : Table) (r : List ℕ) (i j : ℕ) → 1 ≤ i → i < j → j ≤ length r
    → way (hop t) 0 (stops (reversed_within r i j)) + reverse_lost t (0 ∷ stops r) i j ≡ way (hop t) 0 (stops r) + reverse_gained t (0 ∷ stops r) i j
reversed_way t r i j low order high =
    let lr : length (stops r) ≡ length r + 1 = length-append r (0 ∷ []) in
    let em : suc (j - i) ≡ j - i + 1 = omega arith in
    let ej : i - 1 + suc (j - i) ≡ j = omega arith in
    let ei : i - 1 + 1 ≡ i = omega arith in
    let law = reversed_ways (hop t) (stops r) (i - 1) (j - i) (omega arith) in
    let new : way (hop t) 0 (stops (reversed_within r i j))
    ≡ way (hop t) 0 (take (i - 1) (stops r) ++ (reverse (take (suc (j - i)) (drop (i - 1) (stops r))) ++ drop (i - 1 + suc (j - i)) (stops r))) =
    ap (λ (k : ℕ). way (hop t) 0 (stops (take (i - 1) r ++ (reverse (take (j - i + 1) (drop (i - 1) r)) ++ drop k r)))) (sym ej)
    ∙ ap (λ (m : ℕ). way (hop t) 0 (stops (take (i - 1) r ++ (reverse (take m (drop (i - 1) r)) ++ drop (i - 1 + suc (j - i)) r)))) (sym em)
    ∙ ap (way (hop t) 0) (reversed_stops r (i - 1) (suc (j - i)) (omega arith)) in
    let s1 : slice_index (stops r) (i - 1) ≡ stop_at r i = stop_from r i low in
    let s2 : slice_index (stops r) (i - 1 + suc (j - i)) ≡ stop_at r (j + 1) =
    let u : i - 1 + suc (j - i) ≡ j + 1 - 1 = omega arith in ap (slice_index (stops r)) u ∙ stop_from r (j + 1) (omega arith) in
    let s3 : slice_index (0 ∷ stops r) (i - 1 + suc (j - i)) ≡ stop_at r j = ap (stop_at r) ej in
    let a1 : along (hop t) (0 ∷ stops r) (i - 1 + suc (j - i)) ≡ along (hop t) (0 ∷ stops r) j = ap (along (hop t) (0 ∷ stops r)) ej in
    let a2 : along (turned (hop t)) (0 ∷ stops r) (i - 1 + suc (j - i)) ≡ along (turned (hop t)) (0 ∷ stops r) j = ap (along (turned (hop t)) (0 ∷ stops r)) ej in
    let a3 : along (hop t) (0 ∷ stops r) (i - 1 + 1) ≡ along (hop t) (0 ∷ stops r) i = ap (along (hop t) (0 ∷ stops r)) ei in
    let a4 : along (turned (hop t)) (0 ∷ stops r) (i - 1 + 1) ≡ along (turned (hop t)) (0 ∷ stops r) i = ap (along (turned (hop t)) (0 ∷ stops r)) ei in
    let x1 : hop t (stop_at r (i - 1)) (slice_index (stops r) (i - 1)) ≡ hop t (stop_at r (i - 1)) (stop_at r i) = ap (hop t (stop_at r (i - 1))) s1 in
    let x2 : hop t (slice_index (0 ∷ stops r) (i - 1 + suc (j - i))) (slice_index (stops r) (i - 1 + suc (j - i))) ≡ hop t (stop_at r j) (stop_at r (j + 1)) =
    ap (λ (x : ℕ). hop t x (slice_index (stops r) (i - 1 + suc (j - i)))) s3 ∙ ap (hop t (stop_at r j)) s2 in
    let x3 : hop t (stop_at r (i - 1)) (slice_index (0 ∷ stops r) (i - 1 + suc (j - i))) ≡ hop t (stop_at r (i - 1)) (stop_at r j) = ap (hop t (stop_at r (i - 1))) s3 in
    let x4 : hop t (slice_index (stops r) (i - 1)) (slice_index (stops r) (i - 1 + suc (j - i))) ≡ hop t (stop_at r i) (stop_at r (j + 1)) =
    ap (λ (x : ℕ). hop t x (slice_index (stops r) (i - 1 + suc (j - i)))) s1 ∙ ap (hop t (stop_at r i)) s2 in
    omega arith

module _ (law : Laws) where
  -- the cost after two routes got new ones, and after one did, by the ways of their stops
  two_ways : (n : ℕ) (t : Table) (routes : List (List ℕ)) (v w : ℕ) (r q : List ℕ) → IsPlan n routes → IsPlan n (with_routes ((v, r) ∷ (w, q) ∷ []) routes)
      → AreApart (length routes) ((v, r) ∷ (w, q) ∷ [])
      → cost_of t (with_routes ((v, r) ∷ (w, q) ∷ []) routes) + (way (hop t) 0 (stops (route_at routes v)) + way (hop t) 0 (stops (route_at routes w)))
      ≡ cost_of t routes + (way (hop t) 0 (stops r) + way (hop t) 0 (stops q))
  two_ways n t routes v w r q plan after apart =
      let changes : Changes = (v, r) ∷ (w, q) ∷ [] in
      let long : length (with_routes changes routes) ≡ length routes = law.replaced.count changes routes in
      let lv = apart.0 in
      let hv = apart.1 in
      let lw = apart.3.0 in
      let hw = apart.3.1 in
      let nr : AreNodes r = subst AreNodes (law.replaced.first v r ((w, q) ∷ []) routes apart) (plan_nodes n (with_routes changes routes) v after lv (omega arith)) in
      let nq : AreNodes q = subst AreNodes (law.replaced.second w q (v, r) routes apart) (plan_nodes n (with_routes changes routes) w after lw (omega arith)) in
      let e1 = route_by_hops t r nr in
      let e2 = route_by_hops t q nq in
      let e3 = route_by_hops t (route_at routes v) (plan_nodes n routes v plan lv hv) in
      let e4 = route_by_hops t (route_at routes w) (plan_nodes n routes w plan lw hw) in
      let sum = law.costs.two t v w r q routes apart in
      omega arith

  one_way : (n : ℕ) (t : Table) (routes : List (List ℕ)) (v : ℕ) (r : List ℕ) → IsPlan n routes → IsPlan n (with_routes ((v, r) ∷ []) routes)
      → AreApart (length routes) ((v, r) ∷ [])
      → cost_of t (with_routes ((v, r) ∷ []) routes) + way (hop t) 0 (stops (route_at routes v)) ≡ cost_of t routes + way (hop t) 0 (stops r)
  one_way n t routes v r plan after apart =
      let changes : Changes = (v, r) ∷ [] in
      let long : length (with_routes changes routes) ≡ length routes = law.replaced.count changes routes in
      let lv = apart.0 in
      let hv = apart.1 in
      let nr : AreNodes r = subst AreNodes (law.replaced.first v r [] routes apart) (plan_nodes n (with_routes changes routes) v after lv (omega arith)) in
      let e1 = route_by_hops t r nr in
      let e2 = route_by_hops t (route_at routes v) (plan_nodes n routes v plan lv hv) in
      let sum = law.costs.one t v r routes apart in
      omega arith

  -- what a move of two routes saves, by the ways of their stops
  two_saved : (s : Setting) (view : ViewState) (mv : Move) (v w : ℕ) (r q : List ℕ) (lost gained : ℕ) → IsPlan s.customers view.routes
      → is_possible s.customers view.routes mv ≡ true → changes_by view.routes mv ≡ (v, r) ∷ (w, q) ∷ []
      → way (hop (table_at s.tables s.cost)) 0 (stops r) + way (hop (table_at s.tables s.cost)) 0 (stops q) + lost
      ≡ way (hop (table_at s.tables s.cost)) 0 (stops (route_at view.routes v)) + way (hop (table_at s.tables s.cost)) 0 (stops (route_at view.routes w)) + gained
      → IsSaving s view mv lost gained
  two_saved s view mv v w r q lost gained plan can same ways =
      let n = s.customers in
      let t = table_at s.tables s.cost in
      let routes = view.routes in
      let has = has_effect n routes mv can in
      let after : IsPlan n (with_routes ((v, r) ∷ (w, q) ∷ []) routes) = subst (λ (cs : Changes). IsPlan n (with_routes cs routes)) same (law.plans.plan n routes mv (changes_by routes mv) plan has) in
      let apart : AreApart (length routes) ((v, r) ∷ (w, q) ∷ []) = subst (λ (cs : Changes). AreApart (length routes) cs) same (law.names.changes n routes mv (changes_by routes mv) has).apart in
      let sum = two_ways n t routes v w r q plan after apart in
      let whole : cost_of t (with_routes ((v, r) ∷ (w, q) ∷ []) routes) + lost ≡ cost_of t routes + gained = omega arith in
      subst (λ (cs : Changes). cost_of t (with_routes cs routes) + lost ≡ cost_of t routes + gained) (sym same) whole

  -- and of one
  one_saved : (s : Setting) (view : ViewState) (mv : Move) (v : ℕ) (r : List ℕ) (lost gained : ℕ) → IsPlan s.customers view.routes
      → is_possible s.customers view.routes mv ≡ true → changes_by view.routes mv ≡ (v, r) ∷ []
      → way (hop (table_at s.tables s.cost)) 0 (stops r) + lost ≡ way (hop (table_at s.tables s.cost)) 0 (stops (route_at view.routes v)) + gained
      → IsSaving s view mv lost gained
  one_saved s view mv v r lost gained plan can same ways =
      let n = s.customers in
      let t = table_at s.tables s.cost in
      let routes = view.routes in
      let has = has_effect n routes mv can in
      let after : IsPlan n (with_routes ((v, r) ∷ []) routes) = subst (λ (cs : Changes). IsPlan n (with_routes cs routes)) same (law.plans.plan n routes mv (changes_by routes mv) plan has) in
      let apart : AreApart (length routes) ((v, r) ∷ []) = subst (λ (cs : Changes). AreApart (length routes) cs) same (law.names.changes n routes mv (changes_by routes mv) has).apart in
      let sum = one_way n t routes v r plan after apart in
      let whole : cost_of t (with_routes ((v, r) ∷ []) routes) + lost ≡ cost_of t routes + gained = omega arith in
      subst (λ (cs : Changes). cost_of t (with_routes cs routes) + lost ≡ cost_of t routes + gained) (sym same) whole

  pub shift_saves : (s : Setting) (view : ViewState) (v p m w at : ℕ) → IsPlan s.customers view.routes → is_possible s.customers view.routes (Shift v p m w at) ≡ true → v ≢ w
      → IsSaving s view (Shift v p m w at)
      (shift_lost (table_at s.tables s.cost) (0 ∷ stops (route_at view.routes v)) (0 ∷ stops (route_at view.routes w)) p m 0 at)
      (shift_gained (table_at s.tables s.cost) (0 ∷ stops (route_at view.routes v)) (0 ∷ stops (route_at view.routes w)) p m 0 at)
  shift_saves s view v p m w at plan can o =
      let r = route_at view.routes v in
      let q = route_at view.routes w in
      let f = (law.possible.shift s.customers view.routes v p m w at).0 can in
      two_saved s view (Shift v p m w at) v w (without r p m) (with_stretch q at (stretch r p m)) _ _ plan can (rw (ne_eqb v w o) refl)
      (between_ways (table_at s.tables s.cost) r q p m at f.from.low f.from.some f.from.high f.onto.low (f.onto.outside o))

  pub shift_inside_saves : (s : Setting) (view : ViewState) (v p m o at : ℕ) → IsPlan s.customers view.routes → is_possible s.customers view.routes (Shift v p m v at) ≡ true
      → AreAround (route_at view.routes v) p m o at
      → IsSaving s view (Shift v p m v at)
      (shift_lost (table_at s.tables s.cost) (0 ∷ stops (route_at view.routes v)) (0 ∷ stops (route_at view.routes v)) p m o at)
      (shift_gained (table_at s.tables s.cost) (0 ∷ stops (route_at view.routes v)) (0 ∷ stops (route_at view.routes v)) p m o at)
  shift_inside_saves s view v p m o at plan can around =
      let r = route_at view.routes v in
      let f = (law.possible.shift s.customers view.routes v p m v at).0 can in
      one_saved s view (Shift v p m v at) v (with_stretch (without r p m) at (stretch r p m)) _ _ plan can (rw (eq-eqb v v refl) refl)
      (inside_way (table_at s.tables s.cost) r p m o at f.from.low f.from.some f.from.high f.onto.low (f.onto.inside refl).0 around)

  pub swap_saves : (s : Setting) (view : ViewState) (v p w q : ℕ) → IsPlan s.customers view.routes → is_possible s.customers view.routes (Swap v p w q) ≡ true → v ≢ w
      → IsSaving s view (Swap v p w q)
      (swap_lost (table_at s.tables s.cost) (0 ∷ stops (route_at view.routes v)) (0 ∷ stops (route_at view.routes w)) p q)
      (swap_gained (table_at s.tables s.cost) (0 ∷ stops (route_at view.routes v)) (0 ∷ stops (route_at view.routes w)) p q)
  swap_saves s view v p w at plan can o =
      let t = table_at s.tables s.cost in
      let r = route_at view.routes v in
      let q = route_at view.routes w in
      let f = (law.possible.swap s.customers view.routes v p w at).0 can in
      let c = customer_at r p in
      let d = customer_at q at in
      let one = replaced_at t r p d f.place.low f.place.high in
      let two = replaced_at t q at c f.at.low f.at.high in
      let ec : c ≡ stop_at r p = stop_is r p f.place.low f.place.high in
      let ed : d ≡ stop_at q at = stop_is q at f.at.low f.at.high in
      let y1 : hop t (stop_at r (p - 1)) d ≡ hop t (stop_at r (p - 1)) (stop_at q at) = ap (hop t (stop_at r (p - 1))) ed in
      let y2 : hop t d (stop_at r (p + 1)) ≡ hop t (stop_at q at) (stop_at r (p + 1)) = ap (λ (x : ℕ). hop t x (stop_at r (p + 1))) ed in
      let y3 : hop t (stop_at q (at - 1)) c ≡ hop t (stop_at q (at - 1)) (stop_at r p) = ap (hop t (stop_at q (at - 1))) ec in
      let y4 : hop t c (stop_at q (at + 1)) ≡ hop t (stop_at r p) (stop_at q (at + 1)) = ap (λ (x : ℕ). hop t x (stop_at q (at + 1))) ec in
      two_saved s view (Swap v p w at) v w (with_customer r p d) (with_customer q at c) _ _ plan can (rw (ne_eqb v w o) refl) (omega arith)

  pub swap_inside_saves : (s : Setting) (view : ViewState) (v p q : ℕ) → IsPlan s.customers view.routes → is_possible s.customers view.routes (Swap v p v q) ≡ true → p + 1 < q
      → IsSaving s view (Swap v p v q)
      (swap_lost (table_at s.tables s.cost) (0 ∷ stops (route_at view.routes v)) (0 ∷ stops (route_at view.routes v)) p q)
      (swap_gained (table_at s.tables s.cost) (0 ∷ stops (route_at view.routes v)) (0 ∷ stops (route_at view.routes v)) p q)
  swap_inside_saves s view v p q plan can order =
      let r = route_at view.routes v in
      let f = (law.possible.swap s.customers view.routes v p v q).0 can in
      one_saved s view (Swap v p v q) v (with_customer (with_customer r p (customer_at r q)) q (customer_at r p)) _ _ plan can (rw (eq-eqb v v refl) refl)
      (inner_swap (table_at s.tables s.cost) r p q (customer_at r p) (customer_at r q) f.place.low order f.at.high (stop_is r p f.place.low f.place.high) (stop_is r q f.at.low f.at.high))

  pub swap_next_saves : (s : Setting) (view : ViewState) (v p : ℕ) → IsPlan s.customers view.routes → is_possible s.customers view.routes (Swap v p v (p + 1)) ≡ true
      → IsSaving s view (Swap v p v (p + 1)) (next_lost (table_at s.tables s.cost) (0 ∷ stops (route_at view.routes v)) p)
      (next_gained (table_at s.tables s.cost) (0 ∷ stops (route_at view.routes v)) p)
  swap_next_saves s view v p plan can =
      let r = route_at view.routes v in
      let f = (law.possible.swap s.customers view.routes v p v (p + 1)).0 can in
      one_saved s view (Swap v p v (p + 1)) v (with_customer (with_customer r p (customer_at r (p + 1))) (p + 1) (customer_at r p)) _ _ plan can (rw (eq-eqb v v refl) refl)
      (next_swap (table_at s.tables s.cost) r p (customer_at r p) (customer_at r (p + 1)) f.place.low f.at.high (stop_is r p f.place.low f.place.high) (stop_is r (p + 1) f.at.low f.at.high))

  pub cross_saves : (s : Setting) (view : ViewState) (v k w l : ℕ) → IsPlan s.customers view.routes → is_possible s.customers view.routes (Cross v k w l) ≡ true
      → IsSaving s view (Cross v k w l)
      (cross_lost (table_at s.tables s.cost) (0 ∷ stops (route_at view.routes v)) (0 ∷ stops (route_at view.routes w)) k l)
      (cross_gained (table_at s.tables s.cost) (0 ∷ stops (route_at view.routes v)) (0 ∷ stops (route_at view.routes w)) k l)
  cross_saves s view v k w l plan can =
      let t = table_at s.tables s.cost in
      let r = route_at view.routes v in
      let q = route_at view.routes w in
      let f = (law.possible.cross s.customers view.routes v k w l).0 can in
      let hk : k ≤ length r = f.kept in
      let hl : l ≤ length q = f.kept_other in
      let lr : length (stops r) ≡ length r + 1 = length-append r (0 ∷ []) in
      let lq : length (stops q) ≡ length q + 1 = length-append q (0 ∷ []) in
      let ways = crossed_ways (hop t) (stops r) (stops q) k l (omega arith) (omega arith) in
      let a1 : way (hop t) 0 (stops (crossed r k q l)) ≡ way (hop t) 0 (take k (stops r) ++ drop l (stops q)) = ap (way (hop t) 0) (crossed_stops r q k l hk hl) in
      let a2 : way (hop t) 0 (stops (crossed q l r k)) ≡ way (hop t) 0 (take l (stops q) ++ drop k (stops r)) = ap (way (hop t) 0) (crossed_stops q r l k hl hk) in
      let s1 : slice_index (stops r) k ≡ stop_at r (k + 1) = next_stop r k in
      let s2 : slice_index (stops q) l ≡ stop_at q (l + 1) = next_stop q l in
      let k1 : hop t (stop_at r k) (slice_index (stops r) k) ≡ hop t (stop_at r k) (stop_at r (k + 1)) = ap (hop t (stop_at r k)) s1 in
      let k2 : hop t (stop_at q l) (slice_index (stops q) l) ≡ hop t (stop_at q l) (stop_at q (l + 1)) = ap (hop t (stop_at q l)) s2 in
      let k3 : hop t (stop_at r k) (slice_index (stops q) l) ≡ hop t (stop_at r k) (stop_at q (l + 1)) = ap (hop t (stop_at r k)) s2 in
      let k4 : hop t (stop_at q l) (slice_index (stops r) k) ≡ hop t (stop_at q l) (stop_at r (k + 1)) = ap (hop t (stop_at q l)) s1 in
      two_saved s view (Cross v k w l) v w (crossed r k q l) (crossed q l r k) _ _ plan can refl (omega arith)

  pub reverse_saves : (s : Setting) (view : ViewState) (v i j : ℕ) → IsPlan s.customers view.routes → is_possible s.customers view.routes (Reverse v i j) ≡ true
      → IsSaving s view (Reverse v i j) (reverse_lost (table_at s.tables s.cost) (0 ∷ stops (route_at view.routes v)) i j)
      (reverse_gained (table_at s.tables s.cost) (0 ∷ stops (route_at view.routes v)) i j)
  reverse_saves s view v i j plan can =
      let f = (law.possible.reverse s.customers view.routes v i j).0 can in
      one_saved s view (Reverse v i j) v (reversed_within (route_at view.routes v) i j) _ _ plan can refl
      (reversed_way (table_at s.tables s.cost) (route_at view.routes v) i j f.low f.order f.high)
