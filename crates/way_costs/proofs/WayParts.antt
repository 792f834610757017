use Rattle.std.proofs.Common.{◌≡◌, ◌≢◌, ◌∙◌, ℕ, zero, suc, ◌+◌, ◌-◌, ◌<◌, ◌≤◌, ◌⊎◌, inl, inr, refl, sym, ap, arith, List, [], ◌∷◌, ◌++◌, length, take, drop, slice_index, slice_set, append_assoc}
use Rattle.std.proofs.lemmas.Bool.{cases_eq, eq-eqb, ne_eqb}
use Rattle.std.proofs.lemmas.List.{drop_more, drop-drop, take-append-drop, take-append-le, drop-append-le, length-drop, take-set, drop-set, get_or_append_left, get_or-append_right, get_or-set_same, get_or-set_other, set-append_left, length-set, length-append, length-take-le, get_or-take, get_or-drop}
use Rattle.std.proofs.Math.Seq.{take-add}
use Rattle.callback_store.specs.Tables.{Table, entry}
use Rattle.dimension_core.specs.Cumuls.{last_of}
use Rattle.plan_core.specs.Cost.{way, way_cost, route_cost}
use Rattle.way_costs.specs.Ways.{hop, stops, stop_at}

-- a way in two parts
pub way_append : (f : ℕ → ℕ → ℕ) (i : ℕ) (xs ys : List ℕ) → way f i (xs ++ ys) ≡ way f i xs + way f (last_of i xs) ys
way_append f i [] ys = omega arith
way_append f i (x ∷ xs) ys = let e = way_append f x xs ys in omega arith

pub last_append : (i : ℕ) (xs ys : List ℕ) → last_of i (xs ++ ys) ≡ last_of (last_of i xs) ys
last_append i [] ys = refl
last_append i (x ∷ xs) ys = last_append x xs ys

-- where a way's first so many stops end
pub last_take : (i : ℕ) (xs : List ℕ) (k : ℕ) → k ≤ length xs → last_of i (take k xs) ≡ slice_index (i ∷ xs) k
last_take i xs zero h = refl
last_take i [] (suc k) h = absurd (omega arith)
last_take i (x ∷ xs) (suc k) h = last_take x xs k (omega arith)

-- a list in three parts
pub three_parts : (i n : ℕ) (xs : List ℕ) → xs ≡ take i xs ++ (take n (drop i xs) ++ drop (i + n) xs)
three_parts i n xs =
    let e : take i xs ++ drop i xs ≡ xs = take-append-drop i xs in
    let g : take n (drop i xs) ++ drop n (drop i xs) ≡ drop i xs = take-append-drop n (drop i xs) in
    sym e ∙ ap (λ (ys : List ℕ). take i xs ++ ys) (sym g) ∙ ap (λ (ys : List ℕ). take i xs ++ (take n (drop i xs) ++ ys)) (drop-drop n i xs)

-- the first of a stretch, and its last
pub stretch_head : (xs : List ℕ) (i n : ℕ) → i < length xs → take (suc n) (drop i xs) ≡ slice_index xs i ∷ take n (drop (i + 1) xs)
stretch_head xs i n h = ap (λ (ys : List ℕ). take (suc n) ys) (drop_more xs i 0 h)

pub stretch_last : (f : ℕ) (xs : List ℕ) (i n : ℕ) → i + n ≤ length xs → last_of (last_of f (take i xs)) (take n (drop i xs)) ≡ slice_index (f ∷ xs) (i + n)
stretch_last f xs i n h =
    sym (last_append f (take i xs) (take n (drop i xs))) ∙ ap (last_of f) (sym (take-add i n xs)) ∙ last_take f xs (i + n) h

-- a stretch of one way goes into another: what is lost and what is gained
shift_parts : (f : ℕ → ℕ → ℕ) (a : List ℕ) (s : ℕ) (ss : List ℕ) (z : ℕ) (bs c : List ℕ) (w : ℕ) (ds : List ℕ)
    → way f 0 (a ++ (z ∷ bs)) + way f 0 (c ++ ((s ∷ ss) ++ (w ∷ ds))) + (f (last_of 0 a) s + f (last_of s ss) z + f (last_of 0 c) w)
    ≡ way f 0 (a ++ ((s ∷ ss) ++ (z ∷ bs))) + way f 0 (c ++ (w ∷ ds)) + (f (last_of 0 a) z + f (last_of 0 c) s + f (last_of s ss) w)
shift_parts f a s ss z bs c w ds =
    let e1 = way_append f 0 a (z ∷ bs) in
    let e2 = way_append f 0 c ((s ∷ ss) ++ (w ∷ ds)) in
    let e3 = way_append f 0 a ((s ∷ ss) ++ (z ∷ bs)) in
    let e4 = way_append f 0 c (w ∷ ds) in
    let e5 = way_append f s ss (z ∷ bs) in
    let e6 = way_append f s ss (w ∷ ds) in
    omega arith

shift_by : (f : ℕ → ℕ → ℕ) (a m b c d : List ℕ) (s : ℕ) (ss : List ℕ) (z : ℕ) (bs : List ℕ) (w : ℕ) (ds : List ℕ) (x u y : ℕ)
    → m ≡ s ∷ ss → b ≡ z ∷ bs → d ≡ w ∷ ds → last_of 0 a ≡ x → last_of 0 c ≡ u → last_of (last_of 0 a) m ≡ y
    → way f 0 (a ++ b) + way f 0 (c ++ (m ++ d)) + (f x s + f y z + f u w) ≡ way f 0 (a ++ (m ++ b)) + way f 0 (c ++ d) + (f x z + f u s + f y w)
shift_by f a m b c d s ss z bs w ds x u y em eb ed ex eu ey =
    let last : last_of s ss ≡ y = sym (ap (last_of (last_of 0 a)) em) ∙ ey in
    rw (em, eb, ed, ← ex, ← eu, ← last) (shift_parts f a s ss z bs c w ds)

-- the same by places of the ways' stops, from 0 on
pub shifted_ways : (f : ℕ → ℕ → ℕ) (R Q : List ℕ) (i n j : ℕ) → i + suc n < length R → j < length Q
    → way f 0 (take i R ++ drop (i + suc n) R) + way f 0 (take j Q ++ (take (suc n) (drop i R) ++ drop j Q))
    + (f (slice_index (0 ∷ R) i) (slice_index R i) + f (slice_index (0 ∷ R) (i + suc n)) (slice_index R (i + suc n)) + f (slice_index (0 ∷ Q) j) (slice_index Q j))
    ≡ way f 0 R + way f 0 Q
    + (f (slice_index (0 ∷ R) i) (slice_index R (i + suc n)) + f (slice_index (0 ∷ Q) j) (slice_index R i) + f (slice_index (0 ∷ R) (i + suc n)) (slice_index Q j))
shifted_ways f R Q i n j h k =
    let law = shift_by f (take i R) (take (suc n) (drop i R)) (drop (i + suc n) R) (take j Q) (drop j Q)
    (slice_index R i) (take n (drop (i + 1) R)) (slice_index R (i + suc n)) (drop (i + suc n + 1) R) (slice_index Q j) (drop (j + 1) Q)
    (slice_index (0 ∷ R) i) (slice_index (0 ∷ Q) j) (slice_index (0 ∷ R) (i + suc n))
    (stretch_head R i n (omega arith)) (drop_more R (i + suc n) 0 h) (drop_more Q j 0 k)
    (last_take 0 R i (omega arith)) (last_take 0 Q j (omega arith)) (stretch_last 0 R i (suc n) (omega arith)) in
    let r : way f 0 (take i R ++ (take (suc n) (drop i R) ++ drop (i + suc n) R)) ≡ way f 0 R = ap (way f 0) (sym (three_parts i (suc n) R)) in
    let q : way f 0 (take j Q ++ drop j Q) ≡ way f 0 Q = ap (way f 0) (take-append-drop j Q) in
    omega arith

-- hops are the callback's answers, but for a vehicle that stays at the depot
pub hop_to : (t : Table) (i j : ℕ) → 1 ≤ j → hop t i j ≡ entry t i j
hop_to t i j h = rw (ne_eqb j 0 (λ e. omega arith)) refl

pub hop_from : (t : Table) (i j : ℕ) → 1 ≤ i → hop t i j ≡ entry t i j
hop_from t i j h = split (cases_eq j 0)
  where
    split : (j ≡ 0) ⊎ (j ≡ 0 → ⊥) → hop t i j ≡ entry t i j
    split (inl e) = rw (eq-eqb j 0 e, ne_eqb i 0 (λ o. omega arith)) refl
    split (inr o) = rw (ne_eqb j 0 o) refl

abbrev pub AreNodes : List ℕ → Type 0
AreNodes r = (k : ℕ) → k < length r → 1 ≤ slice_index r k

hop_way : (t : Table) (i : ℕ) (r : List ℕ) → 1 ≤ i → AreNodes r → way (hop t) i (r ++ 0 ∷ []) ≡ way_cost t i (r ++ 0 ∷ [])
hop_way t i [] h all = let e = hop_from t i 0 h in omega arith
hop_way t i (c ∷ cs) h all =
    let e = hop_to t i c (all 0 (omega arith)) in
    let rest = hop_way t c cs (all 0 (omega arith)) (λ k b. all (suc k) (omega arith)) in
    omega arith

-- a route's cost is its way by hops, also where it is empty
pub route_by_hops : (t : Table) (r : List ℕ) → AreNodes r → way (hop t) 0 (stops r) ≡ route_cost t r
route_by_hops t [] all = refl
route_by_hops t (c ∷ cs) all =
    let e = hop_to t 0 c (all 0 (omega arith)) in
    let rest = hop_way t c cs (all 0 (omega arith)) (λ k b. all (suc k) (omega arith)) in
    omega arith

pub moved_ways : (f : ℕ → ℕ → ℕ) (R Q : List ℕ) (i n j : ℕ) → 1 ≤ n → i + n < length R → j < length Q
    → way f 0 (take i R ++ drop (i + n) R) + way f 0 (take j Q ++ (take n (drop i R) ++ drop j Q))
    + (f (slice_index (0 ∷ R) i) (slice_index R i) + f (slice_index (0 ∷ R) (i + n)) (slice_index R (i + n)) + f (slice_index (0 ∷ Q) j) (slice_index Q j))
    ≡ way f 0 R + way f 0 Q
    + (f (slice_index (0 ∷ R) i) (slice_index R (i + n)) + f (slice_index (0 ∷ Q) j) (slice_index R i) + f (slice_index (0 ∷ R) (i + n)) (slice_index Q j))
moved_ways f R Q i zero j o h k = absurd (omega arith)
moved_ways f R Q i (suc n) j o h k = shifted_ways f R Q i n j h k

-- the parts of a route with its return
pub take_stops : (r : List ℕ) (i : ℕ) → i ≤ length r → take i (stops r) ≡ take i r
take_stops r i h = take-append-le i r (0 ∷ []) h

pub drop_stops : (r : List ℕ) (i : ℕ) → i ≤ length r → drop i (stops r) ≡ drop i r ++ 0 ∷ []
drop_stops r i h = drop-append-le i r (0 ∷ []) h

pub stretch_stops : (r : List ℕ) (i n : ℕ) → i + n ≤ length r → take n (drop i (stops r)) ≡ take n (drop i r)
stretch_stops r i n h =
    let long : length (drop i r) ≡ length r - i = length-drop i r in
    ap (λ (ys : List ℕ). take n ys) (drop_stops r i (omega arith)) ∙ take-append-le n (drop i r) (0 ∷ []) (omega arith)

pub without_stops : (r : List ℕ) (i n : ℕ) → i + n ≤ length r → stops (take i r ++ drop (i + n) r) ≡ take i (stops r) ++ drop (i + n) (stops r)
without_stops r i n h =
    append_assoc (take i r) (drop (i + n) r) (0 ∷ [])
    ∙ ap (λ (ys : List ℕ). ys ++ (drop (i + n) r ++ 0 ∷ [])) (sym (take_stops r i (omega arith)))
    ∙ ap (λ (ys : List ℕ). take i (stops r) ++ ys) (sym (drop_stops r (i + n) h))

pub with_stops : (q : List ℕ) (j : ℕ) (s : List ℕ) → j ≤ length q → stops (take j q ++ (s ++ drop j q)) ≡ take j (stops q) ++ (s ++ drop j (stops q))
with_stops q j s h =
    append_assoc (take j q) (s ++ drop j q) (0 ∷ [])
    ∙ ap (λ (ys : List ℕ). take j q ++ ys) (append_assoc s (drop j q) (0 ∷ []))
    ∙ ap (λ (ys : List ℕ). ys ++ (s ++ (drop j q ++ 0 ∷ []))) (sym (take_stops q j h))
    ∙ ap (λ (ys : List ℕ). take j (stops q) ++ (s ++ ys)) (sym (drop_stops q j h))

-- a stop by its place
pub stop_from : (r : List ℕ) (p : ℕ) → 1 ≤ p → slice_index (stops r) (p - 1) ≡ stop_at r p
stop_from r zero h = absurd (omega arith)
stop_from r (suc i) h = let e : suc i - 1 ≡ i = omega arith in ap (slice_index (stops r)) e

-- one stop of a way is another one
replaced_parts : (f : ℕ → ℕ → ℕ) (a : List ℕ) (c d z : ℕ) (bs : List ℕ)
    → way f 0 (a ++ (d ∷ (z ∷ bs))) + (f (last_of 0 a) c + f c z) ≡ way f 0 (a ++ (c ∷ (z ∷ bs))) + (f (last_of 0 a) d + f d z)
replaced_parts f a c d z bs =
    let e1 = way_append f 0 a (d ∷ (z ∷ bs)) in
    let e2 = way_append f 0 a (c ∷ (z ∷ bs)) in
    omega arith

pub replaced_way : (f : ℕ → ℕ → ℕ) (R : List ℕ) (i d : ℕ) → i + 1 < length R
    → way f 0 (take i R ++ (d ∷ drop (i + 1) R)) + (f (slice_index (0 ∷ R) i) (slice_index R i) + f (slice_index R i) (slice_index R (i + 1)))
    ≡ way f 0 R + (f (slice_index (0 ∷ R) i) d + f d (slice_index R (i + 1)))
replaced_way f R i d h =
    let law = replaced_parts f (take i R) (slice_index R i) d (slice_index R (i + 1)) (drop (i + 1 + 1) R) in
    let tail : drop (i + 1) R ≡ slice_index R (i + 1) ∷ drop (i + 1 + 1) R = drop_more R (i + 1) 0 h in
    let whole : R ≡ take i R ++ (slice_index R i ∷ (slice_index R (i + 1) ∷ drop (i + 1 + 1) R)) =
    sym (take-append-drop i R) ∙ ap (λ (ys : List ℕ). take i R ++ ys) (drop_more R i 0 (omega arith)) ∙ ap (λ (ys : List ℕ). take i R ++ (slice_index R i ∷ ys)) tail in
    let last : last_of 0 (take i R) ≡ slice_index (0 ∷ R) i = last_take 0 R i (omega arith) in
    let new : way f 0 (take i R ++ (d ∷ drop (i + 1) R)) ≡ way f 0 (take i R ++ (d ∷ (slice_index R (i + 1) ∷ drop (i + 1 + 1) R))) =
    ap (λ (ys : List ℕ). way f 0 (take i R ++ (d ∷ ys))) tail in
    let old : way f 0 (take i R ++ (slice_index R i ∷ (slice_index R (i + 1) ∷ drop (i + 1 + 1) R))) ≡ way f 0 R = ap (way f 0) (sym whole) in
    let x1 : f (last_of 0 (take i R)) (slice_index R i) ≡ f (slice_index (0 ∷ R) i) (slice_index R i) = ap (λ (k : ℕ). f k (slice_index R i)) last in
    let x2 : f (last_of 0 (take i R)) d ≡ f (slice_index (0 ∷ R) i) d = ap (λ (k : ℕ). f k d) last in
    omega arith

-- two ways change their ends
crossed_parts : (f : ℕ → ℕ → ℕ) (a : List ℕ) (z : ℕ) (bs c : List ℕ) (w : ℕ) (ds : List ℕ)
    → way f 0 (a ++ (w ∷ ds)) + way f 0 (c ++ (z ∷ bs)) + (f (last_of 0 a) z + f (last_of 0 c) w)
    ≡ way f 0 (a ++ (z ∷ bs)) + way f 0 (c ++ (w ∷ ds)) + (f (last_of 0 a) w + f (last_of 0 c) z)
crossed_parts f a z bs c w ds =
    let e1 = way_append f 0 a (w ∷ ds) in
    let e2 = way_append f 0 c (z ∷ bs) in
    let e3 = way_append f 0 a (z ∷ bs) in
    let e4 = way_append f 0 c (w ∷ ds) in
    omega arith

pub crossed_ways : (f : ℕ → ℕ → ℕ) (R Q : List ℕ) (i j : ℕ) → i < length R → j < length Q
    → way f 0 (take i R ++ drop j Q) + way f 0 (take j Q ++ drop i R)
    + (f (slice_index (0 ∷ R) i) (slice_index R i) + f (slice_index (0 ∷ Q) j) (slice_index Q j))
    ≡ way f 0 R + way f 0 Q + (f (slice_index (0 ∷ R) i) (slice_index Q j) + f (slice_index (0 ∷ Q) j) (slice_index R i))
crossed_ways f R Q i j h k =
    let law = crossed_parts f (take i R) (slice_index R i) (drop (i + 1) R) (take j Q) (slice_index Q j) (drop (j + 1) Q) in
    let er : drop i R ≡ slice_index R i ∷ drop (i + 1) R = drop_more R i 0 h in
    let eq : drop j Q ≡ slice_index Q j ∷ drop (j + 1) Q = drop_more Q j 0 k in
    let a1 : way f 0 (take i R ++ drop j Q) ≡ way f 0 (take i R ++ (slice_index Q j ∷ drop (j + 1) Q)) = ap (λ (ys : List ℕ). way f 0 (take i R ++ ys)) eq in
    let a2 : way f 0 (take j Q ++ drop i R) ≡ way f 0 (take j Q ++ (slice_index R i ∷ drop (i + 1) R)) = ap (λ (ys : List ℕ). way f 0 (take j Q ++ ys)) er in
    let a3 : way f 0 (take i R ++ (slice_index R i ∷ drop (i + 1) R)) ≡ way f 0 R = ap (λ (ys : List ℕ). way f 0 (take i R ++ ys)) (sym er) ∙ ap (way f 0) (take-append-drop i R) in
    let a4 : way f 0 (take j Q ++ (slice_index Q j ∷ drop (j + 1) Q)) ≡ way f 0 Q = ap (λ (ys : List ℕ). way f 0 (take j Q ++ ys)) (sym eq) ∙ ap (way f 0) (take-append-drop j Q) in
    let last : last_of 0 (take i R) ≡ slice_index (0 ∷ R) i = last_take 0 R i (omega arith) in
    let back : last_of 0 (take j Q) ≡ slice_index (0 ∷ Q) j = last_take 0 Q j (omega arith) in
    let x1 : f (last_of 0 (take i R)) (slice_index R i) ≡ f (slice_index (0 ∷ R) i) (slice_index R i) = ap (λ (m : ℕ). f m (slice_index R i)) last in
    let x2 : f (last_of 0 (take j Q)) (slice_index Q j) ≡ f (slice_index (0 ∷ Q) j) (slice_index Q j) = ap (λ (m : ℕ). f m (slice_index Q j)) back in
    let x3 : f (last_of 0 (take i R)) (slice_index Q j) ≡ f (slice_index (0 ∷ R) i) (slice_index Q j) = ap (λ (m : ℕ). f m (slice_index Q j)) last in
    let x4 : f (last_of 0 (take j Q)) (slice_index R i) ≡ f (slice_index (0 ∷ Q) j) (slice_index R i) = ap (λ (m : ℕ). f m (slice_index R i)) back in
    omega arith

pub crossed_stops : (r q : List ℕ) (i j : ℕ) → i ≤ length r → j ≤ length q → stops (take i r ++ drop j q) ≡ take i (stops r) ++ drop j (stops q)
crossed_stops r q i j h k =
    append_assoc (take i r) (drop j q) (0 ∷ [])
    ∙ ap (λ (ys : List ℕ). ys ++ (drop j q ++ 0 ∷ [])) (sym (take_stops r i h))
    ∙ ap (λ (ys : List ℕ). take i (stops r) ++ ys) (sym (drop_stops q j k))

-- a list with another element at a place, in parts
pub set_parts : (r : List ℕ) (i d : ℕ) → i < length r → slice_set r i d ≡ take i r ++ (d ∷ drop (i + 1) r)
set_parts r i d h =
    sym (take-append-drop i (slice_set r i d)) ∙ ap (λ (ys : List ℕ). ys ++ drop i (slice_set r i d)) (take-set r i d)
    ∙ ap (λ (ys : List ℕ). take i r ++ ys) (drop-set r i d h)

pub set_stops : (r : List ℕ) (i d : ℕ) → i < length r → stops (slice_set r i d) ≡ take i (stops r) ++ (d ∷ drop (i + 1) (stops r))
set_stops r i d h =
    ap (λ (ys : List ℕ). stops ys) (set_parts r i d h) ∙ append_assoc (take i r) (d ∷ drop (i + 1) r) (0 ∷ [])
    ∙ ap (λ (ys : List ℕ). ys ++ (d ∷ (drop (i + 1) r ++ 0 ∷ []))) (sym (take_stops r i (omega arith)))
    ∙ ap (λ (ys : List ℕ). take i (stops r) ++ (d ∷ ys)) (sym (drop_stops r (i + 1) (omega arith)))

-- a customer by its place
pub stop_is : (r : List ℕ) (p : ℕ) → 1 ≤ p → p ≤ length r → slice_index r (p - 1) ≡ stop_at r p
stop_is r p low high = sym (get_or_append_left r (0 ∷ []) 0 (p - 1) (omega arith)) ∙ stop_from r p low

-- a stretch is taken out of a way and put in again, at a place of what is left
pub moved_within : (f : ℕ → ℕ → ℕ) (R T : List ℕ) (i n j : ℕ) → 1 ≤ n → i + n < length R → T ≡ take i R ++ drop (i + n) R → j < length T
    → way f 0 (take j T ++ (take n (drop i R) ++ drop j T))
    + (f (slice_index (0 ∷ R) i) (slice_index R i) + f (slice_index (0 ∷ R) (i + n)) (slice_index R (i + n)) + f (slice_index (0 ∷ T) j) (slice_index T j))
    ≡ way f 0 R
    + (f (slice_index (0 ∷ R) i) (slice_index R (i + n)) + f (slice_index (0 ∷ T) j) (slice_index R i) + f (slice_index (0 ∷ R) (i + n)) (slice_index T j))
moved_within f R T i n j o h e k =
    let law = moved_ways f R T i n j o h k in
    let same : way f 0 T ≡ way f 0 (take i R ++ drop (i + n) R) = ap (way f 0) e in
    omega arith

-- two stops of one way change places, the second after the first: what it costs by the way with the first one written over
pub swapped_within : (f : ℕ → ℕ → ℕ) (R S : List ℕ) (i j c d : ℕ) → i + 1 < length R → j + 1 < length S → S ≡ take i R ++ (d ∷ drop (i + 1) R)
    → way f 0 (take j S ++ (c ∷ drop (j + 1) S))
    + (f (slice_index (0 ∷ R) i) (slice_index R i) + f (slice_index R i) (slice_index R (i + 1))
    + (f (slice_index (0 ∷ S) j) (slice_index S j) + f (slice_index S j) (slice_index S (j + 1))))
    ≡ way f 0 R
    + (f (slice_index (0 ∷ R) i) d + f d (slice_index R (i + 1)) + (f (slice_index (0 ∷ S) j) c + f c (slice_index S (j + 1))))
swapped_within f R S i j c d h k e =
    let one = replaced_way f R i d h in
    let two = replaced_way f S j c k in
    let same : way f 0 S ≡ way f 0 (take i R ++ (d ∷ drop (i + 1) R)) = ap (way f 0) e in
    omega arith

-- the stops of a route with another customer at a place
pub set_stop_same : (r : List ℕ) (p d : ℕ) → 1 ≤ p → p ≤ length r → stop_at (slice_set r (p - 1) d) p ≡ d
set_stop_same r p d low high =
    let long : length (slice_set r (p - 1) d) ≡ length r = length-set r (p - 1) d in
    sym (stop_is (slice_set r (p - 1) d) p low (omega arith)) ∙ get_or-set_same r (p - 1) d 0 (omega arith)

pub set_stop_other : (r : List ℕ) (p k d : ℕ) → 1 ≤ p → p ≤ length r → k ≢ p → stop_at (slice_set r (p - 1) d) k ≡ stop_at r k
set_stop_other r p zero d low high o = refl
set_stop_other r p (suc k) d low high o =
    let away : k ≢ p - 1 = λ e. o (omega arith) in
    let whole : slice_set r (p - 1) d ++ 0 ∷ [] ≡ slice_set (r ++ 0 ∷ []) (p - 1) d = sym (set-append_left r (0 ∷ []) (p - 1) d (omega arith)) in
    ap (λ (xs : List ℕ). slice_index xs k) whole ∙ get_or-set_other (r ++ 0 ∷ []) (p - 1) k d 0 away

-- the stops of a route without a stretch: those before it, and those after it so many places on
pub without_stop_before : (r : List ℕ) (p n k : ℕ) → 1 ≤ p → p + n ≤ length r + 1 → k < p
    → slice_index (0 ∷ (take (p - 1) (stops r) ++ drop (p - 1 + n) (stops r))) k ≡ stop_at r k
without_stop_before r p n zero low high h = refl
without_stop_before r p n (suc k) low high h =
    let lr : length (stops r) ≡ length r + 1 = length-append r (0 ∷ []) in
    let long : length (take (p - 1) (stops r)) ≡ p - 1 = length-take-le (p - 1) (stops r) (omega arith) in
    get_or_append_left (take (p - 1) (stops r)) (drop (p - 1 + n) (stops r)) 0 k (omega arith) ∙ get_or-take (p - 1) (stops r) k 0 (omega arith)

pub without_stop_after : (r : List ℕ) (p n k : ℕ) → 1 ≤ p → p + n ≤ length r + 1 → p ≤ k
    → slice_index (0 ∷ (take (p - 1) (stops r) ++ drop (p - 1 + n) (stops r))) k ≡ stop_at r (k + n)
without_stop_after r p n zero low high h = absurd (omega arith)
without_stop_after r p n (suc k) low high h =
    let lr : length (stops r) ≡ length r + 1 = length-append r (0 ∷ []) in
    let long : length (take (p - 1) (stops r)) ≡ p - 1 = length-take-le (p - 1) (stops r) (omega arith) in
    let e : p - 1 + n + (k - (p - 1)) ≡ k + n = omega arith in
    let g : suc k + n ≡ suc (k + n) = omega arith in
    get_or-append_right (take (p - 1) (stops r)) (drop (p - 1 + n) (stops r)) (p - 1) k 0 long (omega arith)
    ∙ get_or-drop (p - 1 + n) (stops r) (k - (p - 1)) 0 ∙ ap (slice_index (stops r)) e ∙ sym (ap (stop_at r) g)
