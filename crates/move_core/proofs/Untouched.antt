use Rattle.std.proofs.Common.{◌≡◌, ◌≢◌, ℕ, zero, suc, ◌+◌, ◌-◌, ◌<◌, ◌≤◌, ◌⊎◌, ◌∙◌, sym, ap, subst, refl, arith, inl, inr, List, [], ◌∷◌, ◌++◌, length, take, drop, map, reverse, filter, slice_get, slice_set, get_or, Some, Bool, true, false, not, ◌||◌, ◌==◌}
use mathlib.Core.List.{reverse_aux}
use Rattle.std.proofs.lemmas.Bool.{cases_eq, eq-eqb, ne_eqb}
use Rattle.std.proofs.lemmas.List.{take-append-drop, drop-drop, drop_more, map-append, get_or-set_other}
use Rattle.std.proofs.lemmas.List.Elements.{filter-append}
use Rattle.std.proofs.lemmas.List.Folds.{list_any-append}
use Rattle.plan_core.specs.declared.touch.Touch.{Touch}
use Rattle.plan_core.specs.Plan.{StandsAt, route_at, with_routes}
use Rattle.plan_core.specs.Among.{is_among}
use Rattle.move_core.specs.declared.moves.Move.{Move}
use Rattle.move_core.specs.declared.moves.Move.TheVariants.{Insert, Remove, Shift, Swap, Reverse, Cross}
use Rattle.move_core.specs.Moves.{is_possible, changes_by, stretch, without, customer_at}
use Rattle.move_core.specs.Touched.{touches, touched_by, is_touched, untouched_of}
use Rattle.move_core.proofs.PlanLaws.{PlanLaws}
use Rattle.move_core.proofs.Facts.{can_remove, can_swap, can_reverse}
use Rattle.move_core.proofs.Effects.{EachChange, each_vehicle, by_vehicles, changes_apart}

pub customers-touches : (v p : ℕ) (cs : List ℕ) → map (λ t. t.customer) (touches v p cs) ≡ cs
customers-touches v p [] = refl
customers-touches v p (c ∷ cs) = ap (λ (rest : List ℕ). c ∷ rest) (customers-touches v (p + 1) cs)

or_left : (b d : Bool) → b ≡ true → (b || d) ≡ true
or_left true d h = refl
or_left false d h = let e : true ≡ false = sym h in absurd cc

or_right : (b d : Bool) → d ≡ true → (b || d) ≡ true
or_right true d h = refl
or_right false d h = h

pub has_left : (c : ℕ) (xs ys : List ℕ) → is_among c xs ≡ true → is_among c (xs ++ ys) ≡ true
has_left c xs ys h = list_any-append (λ w. w == c) xs ys ∙ or_left (is_among c xs) (is_among c ys) h

pub has_right : (c : ℕ) (xs ys : List ℕ) → is_among c ys ≡ true → is_among c (xs ++ ys) ≡ true
has_right c xs ys h = list_any-append (λ w. w == c) xs ys ∙ or_right (is_among c xs) (is_among c ys) h

has_head : (c : ℕ) (cs : List ℕ) → is_among c (c ∷ cs) ≡ true
has_head c cs = or_left (c == c) (is_among c cs) (eq-eqb c c refl)

-- where all are touched, none is left
pub none_left : (touched cs : List ℕ) → ((c : ℕ) → is_among c cs ≡ true → is_among c touched ≡ true) → filter (λ c. not (is_among c touched)) cs ≡ []
none_left touched [] all = refl
none_left touched (c ∷ cs) all =
    rw (all c (has_head c cs)) (none_left touched cs (λ d h. all d (or_right (c == d) (is_among d cs) h)))

-- a filter keeps as much of a route with something more, or something less, where it drops that
pub filter-more : (keep : ℕ → Bool) (r s : List ℕ) (i : ℕ) → filter keep s ≡ [] → filter keep (take i r ++ (s ++ drop i r)) ≡ filter keep r
filter-more keep r s i none =
    filter-append keep (take i r) (s ++ drop i r)
    ∙ ap (λ (xs : List ℕ). filter keep (take i r) ++ xs) (filter-append keep s (drop i r) ∙ ap (λ (xs : List ℕ). xs ++ filter keep (drop i r)) none)
    ∙ sym (filter-append keep (take i r) (drop i r)) ∙ ap (λ (xs : List ℕ). filter keep xs) (take-append-drop i r)

parts_of : (r : List ℕ) (i n : ℕ) → take i r ++ (take n (drop i r) ++ drop (i + n) r) ≡ r
parts_of r i n =
    ap (λ (xs : List ℕ). take i r ++ (take n (drop i r) ++ xs)) (sym (drop-drop n i r))
    ∙ ap (λ (xs : List ℕ). take i r ++ xs) (take-append-drop n (drop i r)) ∙ take-append-drop i r

pub filter-parts : (keep : ℕ → Bool) (r s : List ℕ) (i n : ℕ) → filter keep (take n (drop i r)) ≡ [] → filter keep s ≡ []
    → filter keep (take i r ++ (s ++ drop (i + n) r)) ≡ filter keep r
filter-parts keep r s i n none empty =
    filter-append keep (take i r) (s ++ drop (i + n) r)
    ∙ ap (λ (xs : List ℕ). filter keep (take i r) ++ xs) (filter-append keep s (drop (i + n) r) ∙ ap (λ (xs : List ℕ). xs ++ filter keep (drop (i + n) r)) (empty ∙ sym none)
    ∙ sym (filter-append keep (take n (drop i r)) (drop (i + n) r)))
    ∙ sym (filter-append keep (take i r) (take n (drop i r) ++ drop (i + n) r)) ∙ ap (λ (xs : List ℕ). filter keep xs) (parts_of r i n)

pub filter-less : (keep : ℕ → Bool) (r : List ℕ) (i n : ℕ) → filter keep (take n (drop i r)) ≡ [] → filter keep (take i r ++ drop (i + n) r) ≡ filter keep r
filter-less keep r i n none = filter-parts keep r [] i n none refl

-- a customer that the filter drops in place of another one
pub filter-set : (keep : ℕ → Bool) (r : List ℕ) (i d : ℕ) → keep (get_or r i 0) ≡ false → keep d ≡ false → filter keep (slice_set r i d) ≡ filter keep r
filter-set keep [] i d old new = refl
filter-set keep (x ∷ xs) zero d old new = rw (new, old) refl
filter-set keep (x ∷ xs) (suc i) d old new = rw (filter-set keep xs i d old new) refl

filter-crossed : (keep : ℕ → Bool) (r q : List ℕ) (i j : ℕ) → filter keep (drop i r) ≡ [] → filter keep (drop j q) ≡ [] → filter keep (take i r ++ drop j q) ≡ filter keep r
filter-crossed keep r q i j mine yours =
    filter-append keep (take i r) (drop j q) ∙ ap (λ (xs : List ℕ). filter keep (take i r) ++ xs) (yours ∙ sym mine)
    ∙ sym (filter-append keep (take i r) (drop i r)) ∙ ap (λ (xs : List ℕ). filter keep xs) (take-append-drop i r)

among-reverse_aux : (c : ℕ) (xs ys : List ℕ) → is_among c (reverse_aux xs ys) ≡ true → (is_among c xs || is_among c ys) ≡ true
among-reverse_aux c [] ys h = h
among-reverse_aux c (x ∷ xs) ys h = swap_parts (is_among c xs) (x == c) (is_among c ys) (among-reverse_aux c xs (x ∷ ys) h)
  where
    swap_parts : (a b d : Bool) → (a || (b || d)) ≡ true → ((b || a) || d) ≡ true
    swap_parts true true d h = refl
    swap_parts true false d h = refl
    swap_parts false true d h = refl
    swap_parts false false d h = h

among-reverse : (c : ℕ) (xs : List ℕ) → is_among c (reverse xs) ≡ true → is_among c xs ≡ true
among-reverse c xs h = or_false (is_among c xs) (among-reverse_aux c xs [] h)
  where
    or_false : (b : Bool) → (b || false) ≡ true → b ≡ true
    or_false true h = refl
    or_false false h = h

-- what a move keeps of a route
abbrev KeepsOn : List (List ℕ) → Move → ℕ → List ℕ → Type 0
KeepsOn routes mv v r = untouched_of routes mv r ≡ untouched_of routes mv (route_at routes v)

gone : (b : Bool) → b ≡ true → not b ≡ false
gone true h = refl
gone false h = let e : true ≡ false = sym h in absurd cc

pub each_kept : (n : ℕ) (routes : List (List ℕ)) (mv : Move) → is_possible n routes mv ≡ true → EachChange (KeepsOn routes mv) (changes_by routes mv)
each_kept n routes (Insert c v p) t =
    (filter-more (λ d. not (is_touched routes (Insert c v p) d)) (route_at routes v) (c ∷ []) (p - 1) (none_left (c ∷ []) (c ∷ []) (λ d h. h)), tt)
each_kept n routes (Remove v p) t =
    let f = can_remove n routes v p t in (
      filter-less (λ d. not (is_touched routes (Remove v p) d)) (route_at routes v) (p - 1) 1
          (none_left (customer_at (route_at routes v) p ∷ []) (take 1 (drop (p - 1) (route_at routes v)))
          (λ d h. subst (λ (xs : List ℕ). is_among d xs ≡ true) (one_stop (route_at routes v) p f.place.low f.place.high) h)),
      tt,
    )
  where
    one_stop : (r : List ℕ) (p : ℕ) → 1 ≤ p → p ≤ length r → take 1 (drop (p - 1) r) ≡ customer_at r p ∷ []
    one_stop r p low high = ap (λ (xs : List ℕ). take 1 xs) (drop_more r (p - 1) 0 (omega arith))
each_kept n routes (Shift v p m to at) t =
    let r = route_at routes v in
    let keep : ℕ → Bool = λ d. not (is_touched routes (Shift v p m to at) d) in
    let none : filter keep (stretch r p m) ≡ [] =
    none_left (map (λ u. u.customer) (touched_by routes (Shift v p m to at))) (stretch r p m)
    (λ d h. subst (λ (xs : List ℕ). is_among d xs ≡ true) (sym (customers-touches v p (stretch r p m))) h) in
    by_vehicles (EachChange (KeepsOn routes (Shift v p m to at))) v to _ _
    (λ e. (filter-more keep (without r p m) (stretch r p m) (at - 1) none ∙ filter-less keep r (p - 1) m none, tt))
    (λ o. (filter-less keep r (p - 1) m none, (filter-more keep (route_at routes to) (stretch r p m) (at - 1) none, tt)))
each_kept n routes (Swap v p w q) t =
    let r = route_at routes v in
    let s = route_at routes w in
    let keep : ℕ → Bool = λ d. not (is_touched routes (Swap v p w q) d) in
    let first : keep (customer_at r p) ≡ false = gone _ (has_head (customer_at r p) (customer_at s q ∷ [])) in
    let second : keep (customer_at s q) ≡ false = gone _ (has_right (customer_at s q) (customer_at r p ∷ []) (customer_at s q ∷ []) (has_head (customer_at s q) [])) in
    by_vehicles (EachChange (KeepsOn routes (Swap v p w q))) v w _ _
    (λ e.
    let there : customer_at r q ≡ customer_at s q = ap (λ (u : ℕ). customer_at (route_at routes u) q) e in
    let f = can_swap n routes v p w q t in
    let low : 1 ≤ p = f.place.low in
    let here : 1 ≤ q = f.at.low in
    let other : p ≢ q = f.apart e in
    let away : q - 1 ≢ p - 1 = λ same. other (omega arith) in
    let mine : keep (customer_at r q) ≡ false = subst (λ (d : ℕ). keep d ≡ false) (sym there) second in
    let still : keep (get_or (slice_set r (p - 1) (customer_at r q)) (q - 1) 0) ≡ false =
    subst (λ (d : ℕ). keep d ≡ false) (sym (get_or-set_other r (p - 1) (q - 1) (customer_at r q) 0 away)) mine in
    (filter-set keep (slice_set r (p - 1) (customer_at r q)) (q - 1) (customer_at r p) still first ∙ filter-set keep r (p - 1) (customer_at r q) first mine, tt))
    (λ o. (filter-set keep r (p - 1) (customer_at s q) first second, (filter-set keep s (q - 1) (customer_at r p) second first, tt)))
each_kept n routes (Reverse v i j) t =
    let r = route_at routes v in
    let f = can_reverse n routes v i j t in
    let low : 1 ≤ i = f.low in
    let order : i < j = f.order in
    let keep : ℕ → Bool = λ d. not (is_touched routes (Reverse v i j) d) in
    let end : i - 1 + (j - i + 1) ≡ j = omega arith in
    let inside : (d : ℕ) → is_among d (stretch r i (j - i + 1)) ≡ true → is_touched routes (Reverse v i j) d ≡ true =
    λ d h. subst (λ (xs : List ℕ). is_among d xs ≡ true) (sym (customers-touches v i (stretch r i (j - i + 1)))) h in
    let none : filter keep (stretch r i (j - i + 1)) ≡ [] =
    none_left (map (λ u. u.customer) (touched_by routes (Reverse v i j))) (stretch r i (j - i + 1)) inside in
    let turned : filter keep (reverse (stretch r i (j - i + 1))) ≡ [] =
    none_left (map (λ u. u.customer) (touched_by routes (Reverse v i j))) (reverse (stretch r i (j - i + 1)))
    (λ d h. inside d (among-reverse d (stretch r i (j - i + 1)) h)) in (
      subst (λ (m : ℕ). filter keep (take (i - 1) r ++ (reverse (stretch r i (j - i + 1)) ++ drop m r)) ≡ filter keep r) end
          (filter-parts keep r (reverse (stretch r i (j - i + 1))) (i - 1) (j - i + 1) none turned),
      tt,
    )
each_kept n routes (Cross v k w l) t =
    let r = route_at routes v in
    let s = route_at routes w in
    let keep : ℕ → Bool = λ d. not (is_touched routes (Cross v k w l) d) in
    let all : map (λ u. u.customer) (touched_by routes (Cross v k w l)) ≡ drop k r ++ drop l s =
    map-append (λ (u : Touch). u.customer) (touches v (k + 1) (drop k r)) (touches w (l + 1) (drop l s))
    ∙ ap (λ (xs : List ℕ). xs ++ map (λ u. u.customer) (touches w (l + 1) (drop l s))) (customers-touches v (k + 1) (drop k r))
    ∙ ap (λ (xs : List ℕ). drop k r ++ xs) (customers-touches w (l + 1) (drop l s)) in
    let mine : filter keep (drop k r) ≡ [] =
    none_left (map (λ u. u.customer) (touched_by routes (Cross v k w l))) (drop k r)
    (λ d h. subst (λ (xs : List ℕ). is_among d xs ≡ true) (sym all) (has_left d (drop k r) (drop l s) h)) in
    let yours : filter keep (drop l s) ≡ [] =
    none_left (map (λ u. u.customer) (touched_by routes (Cross v k w l))) (drop l s)
    (λ d h. subst (λ (xs : List ℕ). is_among d xs ≡ true) (sym all) (has_right d (drop k r) (drop l s) h)) in
    (filter-crossed keep r s k l mine yours, (filter-crossed keep s r l k yours mine, tt))

-- the untouched customers of each vehicle are the same, in the same order
pub untouched_kept : PlanLaws → (n : ℕ) (routes : List (List ℕ)) (mv : Move) (v : ℕ) → is_possible n routes mv ≡ true → 1 ≤ v
    → untouched_of routes mv (route_at (with_routes (changes_by routes mv) routes) v) ≡ untouched_of routes mv (route_at routes v)
untouched_kept law n routes mv v t low =
    each_vehicle law.replaced (KeepsOn routes mv) (changes_by routes mv) routes v (changes_apart n routes mv t).apart low (each_kept n routes mv t) refl

among-filter : (keep : ℕ → Bool) (c : ℕ) (r : List ℕ) → keep c ≡ true → is_among c (filter keep r) ≡ is_among c r
among-filter keep c [] k = refl
among-filter keep c (x ∷ xs) k = split (among-filter keep c xs k) (keep x) refl (cases_eq x c)
  where
    split : is_among c (filter keep xs) ≡ is_among c xs → (b : Bool) → keep x ≡ b → (x ≡ c) ⊎ (x ≡ c → ⊥) → is_among c (filter keep (x ∷ xs)) ≡ is_among c (x ∷ xs)
    split rest true e same = rw e (ap (λ (d : Bool). (x == c) || d) rest)
    split rest false e (inl same) =
        let no : keep c ≡ false = subst (λ (m : ℕ). keep m ≡ false) same e in
        let both : true ≡ false = sym k ∙ no in
        absurd cc
    split rest false e (inr o) = rw (e, ne_eqb x c o) rest

-- a touched customer is that of some touch
touch_of : (touched : List Touch) (c : ℕ) → is_among c (map (λ t. t.customer) touched) ≡ true → (k : ℕ) × ((t : Touch) × (slice_get touched k ≡ Some t) × (t.customer ≡ c))
touch_of [] c h = let e : true ≡ false = sym h in absurd cc
touch_of (t ∷ ts) c h = split (λ more. touch_of ts c more) (cases_eq t.customer c)
  where
    split : (is_among c (map (λ u. u.customer) ts) ≡ true → (k : ℕ) × ((u : Touch) × (slice_get ts k ≡ Some u) × (u.customer ≡ c))) → (t.customer ≡ c) ⊎ (t.customer ≡ c → ⊥) → (k : ℕ) × ((u : Touch) × (slice_get (t ∷ ts) k ≡ Some u) × (u.customer ≡ c))
    split later (inl e) = (zero, (t, refl, e))
    split later (inr o) = let rest = later (rw (ne_eqb t.customer c o) at h) in (suc rest.0, (rest.1.0, rest.1.1, rest.1.2))

-- a customer that stands on a vehicle stays on it or is touched
pub stays_or_touched : PlanLaws → (n : ℕ) (routes : List (List ℕ)) (mv : Move) (c v p : ℕ) → is_possible n routes mv ≡ true → StandsAt routes c v p
    → ((q : ℕ) × StandsAt (with_routes (changes_by routes mv) routes) c v q) ⊎ ((k : ℕ) × ((t : Touch) × (slice_get (touched_by routes mv) k ≡ Some t) × (t.customer ≡ c)))
stays_or_touched law n routes mv c v p t s = split (is_touched routes mv c) refl
  where
    split : (b : Bool) → is_touched routes mv c ≡ b
        → ((q : ℕ) × StandsAt (with_routes (changes_by routes mv) routes) c v q) ⊎ ((k : ℕ) × ((u : Touch) × (slice_get (touched_by routes mv) k ≡ Some u) × (u.customer ≡ c)))
    split true e = inr (touch_of (touched_by routes mv) c e)
    split false e =
        let keep : ℕ → Bool = λ d. not (is_touched routes mv d) in
        let kept : keep c ≡ true = rw e refl in
        let new = route_at (with_routes (changes_by routes mv) routes) v in
        let old : is_among c (route_at routes v) ≡ true = (law.among c (route_at routes v)).1 (law.places.among routes c v p s) in
        let there : is_among c new ≡ true =
        sym (among-filter keep c new kept) ∙ ap (λ (xs : List ℕ). is_among c xs) (untouched_kept law n routes mv v t s.low) ∙ among-filter keep c (route_at routes v) kept ∙ old in
        let long = law.replaced.count (changes_by routes mv) routes in
        let high : v ≤ length routes = s.high in
        inl (law.places.somewhere (with_routes (changes_by routes mv) routes) c v s.low (omega arith) ((law.among c new).0 there))
