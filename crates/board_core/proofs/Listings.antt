-- How the rows of a listing grow, spot by spot.
use Rattle.std.proofs.Common.{◌≡◌, ℕ, zero, suc, ◌+◌, ◌-◌, ◌<◌, ◌≤◌, Bool, true, false, List, [], ◌∷◌, ◌++◌, length, take, refl, sym, ap, ◌∙◌, subst, arith, append_assoc, slice_index}
use Rattle.std.specs.Prelude.{slice_index_or, map, filter, not, cond, ◌==◌, ◌&&◌, ◌||◌, All}
use Rattle.std.specs.List.{range_with_len}
use Rattle.std.proofs.lemmas.Bool.{ne_eqb}
use Rattle.std.proofs.lemmas.List.{append-nil, take_more, map-append, length-take-le}
use Rattle.std.proofs.lemmas.List.Elements.{All-push, filter-append}
use Rattle.dimension_core.specs.Setting.{Setting}
use Rattle.permission_core.specs.declared.objects.Operation.{Operation}
use Rattle.permission_core.specs.declared.objects.Operation.TheVariants as operations
use Rattle.permission_core.specs.declared.objects.Object.{Object}
use Rattle.permission_core.specs.declared.objects.Object.TheVariants as objects
use Rattle.policy_core.specs.Access.{has_access}
use Rattle.plan_core.specs.declared.touch.Touch.{Touch}
use Rattle.plan_core.specs.Plan.{route_at}
use Rattle.move_core.specs.Moves.{is_placed}
use Rattle.move_core.specs.Touched.{touches}
use Rattle.board_rules.specs.Listing.{RowShown, spot_of, placed_spots, unassigned_spots, all_spots, is_readable, HasEarlyValues, IsListing}
use Rattle.board_rules.specs.State.{BoardState}
use Rattle.board_core.specs.Shown.{Grows}

abbrev spot : ℕ → ℕ → ℕ → Touch
spot vehicle place customer = record { vehicle = vehicle; place = place; customer = customer }

-- which rows a session reads: of a vehicle that it may view, of one that it may not, and of the unassigned customers
module _ (may : Operation → Object → Bool) where
  on_vehicle : (v p c : ℕ) (b : Bool) → 1 ≤ v → may operations.View (objects.Vehicle v) ≡ true → may operations.View (objects.Customer c) ≡ b → is_readable may (spot v p c) ≡ b
  on_vehicle v p c b low seen e =
      ap (λ (x : Bool). x && (v == 0 || may operations.View (objects.Vehicle v))) e
      ∙ (ap (λ (x : Bool). b && (x || may operations.View (objects.Vehicle v))) (ne_eqb v 0 (λ h. omega (arith, h)))
      ∙ (ap (λ (x : Bool). b && x) seen ∙ and_true b))
    where
      and_true : (x : Bool) → (x && true) ≡ x
      and_true true = refl
      and_true false = refl

  nowhere : (c : ℕ) (b : Bool) → may operations.View (objects.Customer c) ≡ b → is_readable may (spot 0 0 c) ≡ b
  nowhere c true e = ap (λ (x : Bool). x && true) e
  nowhere c false e = ap (λ (x : Bool). x && true) e

  off_vehicle : (v p c : ℕ) → 1 ≤ v → may operations.View (objects.Vehicle v) ≡ false → is_readable may (spot v p c) ≡ false
  off_vehicle v p c low unseen =
      ap (λ (x : Bool). may operations.View (objects.Customer c) && (x || may operations.View (objects.Vehicle v))) (ne_eqb v 0 (λ h. omega (arith, h)))
      ∙ (ap (λ (x : Bool). may operations.View (objects.Customer c) && x) unseen ∙ and_false (may operations.View (objects.Customer c)))
    where
      and_false : (x : Bool) → (x && false) ≡ false
      and_false true = refl
      and_false false = refl

  none_seen : (v p : ℕ) (route : List ℕ) → 1 ≤ v → may operations.View (objects.Vehicle v) ≡ false → filter (is_readable may) (touches v p route) ≡ []
  none_seen v p [] low unseen = refl
  none_seen v p (c ∷ cs) low unseen =
      ap (λ (b : Bool). cond b (spot v p c ∷ filter (is_readable may) (touches v (p + 1) cs)) (filter (is_readable may) (touches v (p + 1) cs))) (off_vehicle v p c low unseen)
      ∙ none_seen v (p + 1) cs low unseen

module _ (s : Setting) (state : BoardState) (session : ℕ) where
  may : Touch → Bool
  may = is_readable (has_access state.policy session)

  pub grows_none : (rows : List RowShown) → Grows s state session [] rows rows
  grows_none rows = record { spots = sym (append-nil (map spot_of rows)); early = λ h. h }

  grows_same : (xs : List Touch) (rows : List RowShown) → filter (is_readable (has_access state.policy session)) xs ≡ [] → Grows s state session xs rows rows
  grows_same xs rows e = record {
    spots = sym (append-nil (map spot_of rows)) ∙ ap (λ (l : List Touch). map spot_of rows ++ l) (sym e);
    early = λ h. h;
  }

  grows_more : (xs ys : List Touch) (old mid new : List RowShown) → Grows s state session xs old mid → Grows s state session ys mid new → Grows s state session (xs ++ ys) old new
  grows_more xs ys old mid new a b = record {
    spots = b.spots ∙ (ap (λ (l : List Touch). l ++ filter (is_readable (has_access state.policy session)) ys) a.spots
        ∙ (append_assoc (map spot_of old) (filter (is_readable (has_access state.policy session)) xs) (filter (is_readable (has_access state.policy session)) ys)
        ∙ ap (λ (l : List Touch). map spot_of old ++ l) (sym (filter-append (is_readable (has_access state.policy session)) xs ys))));
    early = λ h. b.early (a.early h);
  }

  -- the row of a spot that may be read
  grows_row : (x : Touch) (row : RowShown) (old new : List RowShown) → is_readable (has_access state.policy session) x ≡ true → spot_of row ≡ x
      → HasEarlyValues s state.routes row → new ≡ old ++ row ∷ [] → Grows s state session (x ∷ []) old new
  grows_row x row old new m at has e = record {
    spots = ap (λ (rs : List RowShown). map spot_of rs) e ∙ (map-append spot_of old (row ∷ [])
        ∙ (ap (λ (t : Touch). map spot_of old ++ t ∷ []) at
        ∙ ap (λ (b : Bool). map spot_of old ++ cond b (x ∷ []) []) (sym m)));
    early = λ h. subst (λ (rs : List RowShown). All (HasEarlyValues s state.routes) rs) (sym e) (All-push (HasEarlyValues s state.routes) old row h has);
  }

  -- a spot that may not be read adds no row
  grows_past : (x : Touch) (rows : List RowShown) → is_readable (has_access state.policy session) x ≡ false → Grows s state session (x ∷ []) rows rows
  grows_past x rows m = grows_same (x ∷ []) rows (ap (λ (b : Bool). cond b (x ∷ []) []) m)

touches-push : (v p : ℕ) (xs : List ℕ) (x : ℕ) → touches v p (xs ++ x ∷ []) ≡ touches v p xs ++ spot v (p + length xs) x ∷ []
touches-push v p [] x = let e : p ≡ p + 0 = omega arith in ap (λ (n : ℕ). spot v n x ∷ []) e
touches-push v p (y ∷ ys) x =
    let e : p + 1 + length ys ≡ p + length (y ∷ ys) = omega arith in
    ap (λ (l : List Touch). spot v p y ∷ l) (touches-push v (p + 1) ys x ∙ ap (λ (n : ℕ). touches v (p + 1) ys ++ spot v n x ∷ []) e)

-- the spots of one more place
spots_at : (v : ℕ) (route : List ℕ) (i : ℕ) → i < length route
    → touches v 1 (take (i + 1) route) ≡ touches v 1 (take i route) ++ spot v (i + 1) (slice_index route i) ∷ []
spots_at v route i h =
    let sized : length (take i route) ≡ i = length-take-le i route (omega arith) in
    let e : 1 + length (take i route) ≡ i + 1 = omega (arith, sized) in
    ap (λ (xs : List ℕ). touches v 1 xs) (take_more route i 0 h) ∙ (touches-push v 1 (take i route) (slice_index route i)
    ∙ ap (λ (n : ℕ). touches v 1 (take i route) ++ spot v n (slice_index route i) ∷ []) e)

placed_spots-push : (v : ℕ) (routes : List (List ℕ)) (r : List ℕ) → placed_spots v (routes ++ r ∷ []) ≡ placed_spots v routes ++ touches (v + length routes) 1 r
placed_spots-push v [] r = let e : v ≡ v + 0 = omega arith in append-nil (touches v 1 r) ∙ ap (λ (n : ℕ). touches n 1 r) e
placed_spots-push v (y ∷ ys) r =
    let e : v + 1 + length ys ≡ v + length (y ∷ ys) = omega arith in
    ap (λ (l : List Touch). touches v 1 y ++ l) (placed_spots-push (v + 1) ys r ∙ ap (λ (n : ℕ). placed_spots (v + 1) ys ++ touches n 1 r) e)
    ∙ sym (append_assoc (touches v 1 y) (placed_spots (v + 1) ys) (touches (v + length (y ∷ ys)) 1 r))

-- the spots of one more vehicle
vehicle_at : (routes : List (List ℕ)) (i : ℕ) → i < length routes
    → placed_spots 1 (take (i + 1) routes) ≡ placed_spots 1 (take i routes) ++ touches (i + 1) 1 (route_at routes (i + 1))
vehicle_at routes i h =
    let sized : length (take i routes) ≡ i = length-take-le i routes (omega arith) in
    let e : 1 + length (take i routes) ≡ i + 1 = omega (arith, sized) in
    let f : i ≡ i + 1 - 1 = omega arith in
    ap (λ (xs : List (List ℕ)). placed_spots 1 xs) (take_more routes i [] h) ∙ (placed_spots-push 1 (take i routes) (slice_index_or routes i [])
    ∙ (ap (λ (n : ℕ). placed_spots 1 (take i routes) ++ touches n 1 (slice_index_or routes i [])) e
    ∙ ap (λ (n : ℕ). placed_spots 1 (take i routes) ++ touches (i + 1) 1 (slice_index_or routes n [])) f))

range_push : (from n : ℕ) → range_with_len from (suc n) ≡ range_with_len from n ++ (from + n) ∷ []
range_push from zero = let e : from ≡ from + 0 = omega arith in ap (λ (m : ℕ). m ∷ []) e
range_push from (suc n) =
    let e : from + 1 + n ≡ from + suc n = omega arith in
    ap (λ (l : List ℕ). from ∷ l) (range_push (from + 1) n ∙ ap (λ (m : ℕ). range_with_len (from + 1) n ++ m ∷ []) e)

last_one : (routes : List (List ℕ)) (c : ℕ) (b : Bool) → is_placed routes c ≡ b
    → map (λ d. spot 0 0 d) (filter (λ d. not (is_placed routes d)) (c ∷ [])) ≡ cond (not b) (spot 0 0 c ∷ []) []
last_one routes c true q = ap (λ (x : Bool). map (λ d. spot 0 0 d) (cond (not x) (c ∷ []) [])) q
last_one routes c false q = ap (λ (x : Bool). map (λ d. spot 0 0 d) (cond (not x) (c ∷ []) [])) q

-- the spots of one more customer
customer_at : (routes : List (List ℕ)) (n : ℕ) (b : Bool) → is_placed routes (n + 1) ≡ b
    → unassigned_spots (n + 1) routes ≡ unassigned_spots n routes ++ cond (not b) (spot 0 0 (n + 1) ∷ []) []
customer_at routes n b h =
    let e : n + 1 ≡ suc n = omega arith in
    let f : 1 + n ≡ n + 1 = omega arith in
    let free : ℕ → Bool = λ c. not (is_placed routes c) in
    let range : range_with_len 1 (n + 1) ≡ range_with_len 1 n ++ (n + 1) ∷ [] =
    ap (λ (m : ℕ). range_with_len 1 m) e ∙ (range_push 1 n ∙ ap (λ (m : ℕ). range_with_len 1 n ++ m ∷ []) f) in
    ap (λ (l : List ℕ). map (λ c. spot 0 0 c) (filter free l)) range
    ∙ (ap (λ (l : List ℕ). map (λ c. spot 0 0 c) l) (filter-append free (range_with_len 1 n) ((n + 1) ∷ []))
    ∙ (map-append (λ c. spot 0 0 c) (filter free (range_with_len 1 n)) (filter free ((n + 1) ∷ []))
    ∙ ap (λ (l : List Touch). unassigned_spots n routes ++ l) (last_one routes (n + 1) b h)))

module _ (s : Setting) (state : BoardState) (session : ℕ) (old mid new : List RowShown) where
  pub placed_more : (i : ℕ) → i < length state.routes → Grows s state session (placed_spots 1 (take i state.routes)) old mid
      → Grows s state session (touches (i + 1) 1 (route_at state.routes (i + 1))) mid new → Grows s state session (placed_spots 1 (take (i + 1) state.routes)) old new
  placed_more i h a b =
      subst (λ (xs : List Touch). Grows s state session xs old new) (sym (vehicle_at state.routes i h))
      (grows_more s state session (placed_spots 1 (take i state.routes)) (touches (i + 1) 1 (route_at state.routes (i + 1))) old mid new a b)

  pub place_seen : (v : ℕ) (route : List ℕ) (i : ℕ) (row : RowShown) → 1 ≤ v → i < length route
      → has_access state.policy session operations.View (objects.Vehicle v) ≡ true
      → has_access state.policy session operations.View (objects.Customer (slice_index route i)) ≡ true
      → spot_of row ≡ spot v (i + 1) (slice_index route i) → HasEarlyValues s state.routes row
      → Grows s state session (touches v 1 (take i route)) old mid → new ≡ mid ++ row ∷ []
      → Grows s state session (touches v 1 (take (i + 1) route)) old new
  place_seen v route i row low h vehicle customer at has a e =
      let x : Touch = spot v (i + 1) (slice_index route i) in
      subst (λ (xs : List Touch). Grows s state session xs old new) (sym (spots_at v route i h))
      (grows_more s state session (touches v 1 (take i route)) (x ∷ []) old mid new a
      (grows_row s state session x row mid new (on_vehicle (has_access state.policy session) v (i + 1) (slice_index route i) true low vehicle customer) at has e))

  pub unassigned_seen : (n : ℕ) (row : RowShown) → is_placed state.routes (n + 1) ≡ false
      → has_access state.policy session operations.View (objects.Customer (n + 1)) ≡ true
      → spot_of row ≡ spot 0 0 (n + 1) → row.early ≡ [] → Grows s state session (unassigned_spots n state.routes) old mid → new ≡ mid ++ row ∷ []
      → Grows s state session (unassigned_spots (n + 1) state.routes) old new
  unassigned_seen n row free customer at none a e =
      let x : Touch = spot 0 0 (n + 1) in
      let vehicle : row.vehicle ≡ 0 = ap (λ (t : Touch). t.vehicle) at in
      let has : HasEarlyValues s state.routes row = record {
        sized = ap length none ∙ ap (λ (v : ℕ). cond (v == 0) 0 (length s.dimensions)) (sym vehicle);
        values = λ k below. absurd (omega (arith, ap length none));
      } in
      subst (λ (xs : List Touch). Grows s state session xs old new) (sym (customer_at state.routes n false free))
      (grows_more s state session (unassigned_spots n state.routes) (x ∷ []) old mid new a
      (grows_row s state session x row mid new (nowhere (has_access state.policy session) (n + 1) true customer) at has e))

module _ (s : Setting) (state : BoardState) (session : ℕ) (old mid : List RowShown) where
  pub place_past : (v : ℕ) (route : List ℕ) (i : ℕ) → 1 ≤ v → i < length route
      → has_access state.policy session operations.View (objects.Vehicle v) ≡ true
      → has_access state.policy session operations.View (objects.Customer (slice_index route i)) ≡ false
      → Grows s state session (touches v 1 (take i route)) old mid → Grows s state session (touches v 1 (take (i + 1) route)) old mid
  place_past v route i low h vehicle customer a =
      let x : Touch = spot v (i + 1) (slice_index route i) in
      subst (λ (xs : List Touch). Grows s state session xs old mid) (sym (spots_at v route i h))
      (grows_more s state session (touches v 1 (take i route)) (x ∷ []) old mid mid a
      (grows_past s state session x mid (on_vehicle (has_access state.policy session) v (i + 1) (slice_index route i) false low vehicle customer)))

  -- a customer that may not be read, and one that stands somewhere
  pub unassigned_past : (n : ℕ) → is_placed state.routes (n + 1) ≡ false → has_access state.policy session operations.View (objects.Customer (n + 1)) ≡ false
      → Grows s state session (unassigned_spots n state.routes) old mid → Grows s state session (unassigned_spots (n + 1) state.routes) old mid
  unassigned_past n free customer a =
      let x : Touch = spot 0 0 (n + 1) in
      subst (λ (xs : List Touch). Grows s state session xs old mid) (sym (customer_at state.routes n false free))
      (grows_more s state session (unassigned_spots n state.routes) (x ∷ []) old mid mid a
      (grows_past s state session x mid (nowhere (has_access state.policy session) (n + 1) false customer)))

  pub unassigned_placed : (n : ℕ) → is_placed state.routes (n + 1) ≡ true
      → Grows s state session (unassigned_spots n state.routes) old mid → Grows s state session (unassigned_spots (n + 1) state.routes) old mid
  unassigned_placed n there a =
      subst (λ (xs : List Touch). Grows s state session xs old mid) (sym (customer_at state.routes n true there))
      (grows_more s state session (unassigned_spots n state.routes) [] old mid mid a (grows_none s state session mid))

-- a vehicle that may not be viewed is skipped
pub vehicle_past : (s : Setting) (state : BoardState) (session v : ℕ) (route : List ℕ) (rows : List RowShown) → 1 ≤ v
    → has_access state.policy session operations.View (objects.Vehicle v) ≡ false → Grows s state session (touches v 1 route) rows rows
vehicle_past s state session v route rows low unseen =
    grows_same s state session (touches v 1 route) rows (none_seen (has_access state.policy session) v 1 route low unseen)

-- the rows of the routes, and then those of the unassigned customers
pub listed : (s : Setting) (state : BoardState) (session : ℕ) (none mid rows : List RowShown) → none ≡ [] → Grows s state session (placed_spots 1 state.routes) none mid
    → Grows s state session (unassigned_spots s.customers state.routes) mid rows → IsListing s state session rows
listed s state session none mid rows e a b =
    let both = grows_more s state session (placed_spots 1 state.routes) (unassigned_spots s.customers state.routes) none mid rows a b in
    record {
      spots = both.spots ∙ ap (λ (rs : List RowShown). map spot_of rs ++ filter (is_readable (has_access state.policy session)) (all_spots s.customers state.routes)) e;
      early = both.early (λ k d h. absurd (omega (arith, h, ap length e)));
    }
