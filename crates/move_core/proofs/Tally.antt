use Rattle.std.proofs.Common.{add-zero, ◌≡◌, ◌≢◌, ℕ, zero, suc, ◌+◌, ◌-◌, ◌≤◌, ◌⊎◌, ◌∙◌, ap, refl, arith, inl, inr, List, [], ◌∷◌, ◌++◌, length, take, drop, reverse, slice_get, slice_set, get_or, Some, sum_by, ◌==◌, if◌then◌else◌}
use mathlib.Core.List.{reverse_aux}
use Rattle.std.proofs.lemmas.Bool.{cases_eq, eq-eqb, ne_eqb}
use Rattle.std.proofs.lemmas.List.{take-append-drop, drop-drop, get_or-set_other, length-set}
use Rattle.std.proofs.lemmas.List.Sums.{sum_by-append, sum_by-cons, sum_by-set}
use Rattle.plan_core.specs.Plan.{StandsAt, IsPlan, route_at}
use Rattle.move_core.specs.Rearranged.{count}

-- how often a customer stands at a place of a route, and on all routes
abbrev pub once : ℕ → ℕ → ℕ
once c x = if x == c then 1 else 0

abbrev pub tally : ℕ → List (List ℕ) → ℕ
tally c routes = sum_by (count c) routes

pub once_same : (c x : ℕ) → x ≡ c → once c x ≡ 1
once_same c x e = rw (eq-eqb x c e) refl

pub once_other : (c x : ℕ) → (x ≡ c → ⊥) → once c x ≡ 0
once_other c x o = rw (ne_eqb x c o) refl

pub count-cons : (c x : ℕ) (xs : List ℕ) → count c (x ∷ xs) ≡ once c x + count c xs
count-cons c x xs = sum_by-cons (once c) x xs

tally-cons : (c : ℕ) (r : List ℕ) (rs : List (List ℕ)) → tally c (r ∷ rs) ≡ count c r + tally c rs
tally-cons c r rs = sum_by-cons (count c) r rs

-- who stands at a place is counted
pub count_at : (c : ℕ) (xs : List ℕ) (i : ℕ) → slice_get xs i ≡ Some c → 1 ≤ count c xs
count_at c [] i e = absurd cc
count_at c (x ∷ xs) zero e = let same : x ≡ c = cc in let one = once_same c x same in omega (arith, count-cons c x xs)
count_at c (x ∷ xs) (suc i) e = let rest = count_at c xs i e in omega (arith, count-cons c x xs)

-- and who is counted stands somewhere
pub place_of_count : (c : ℕ) (xs : List ℕ) → 1 ≤ count c xs → (i : ℕ) × (slice_get xs i ≡ Some c)
place_of_count c [] h = absurd (omega (arith, none))
  where
    none : count c [] ≡ 0
    none = refl
place_of_count c (x ∷ xs) h = split (λ more. place_of_count c xs more) (cases_eq x c)
  where
    split : (1 ≤ count c xs → (i : ℕ) × (slice_get xs i ≡ Some c)) → (x ≡ c) ⊎ (x ≡ c → ⊥) → (i : ℕ) × (slice_get (x ∷ xs) i ≡ Some c)
    split later (inl e) = (zero, ap (λ (m : ℕ). Some m) e)
    split later (inr o) = let none = once_other c x o in let rest = later (omega (arith, count-cons c x xs)) in (suc rest.0, rest.1)

-- a customer that is counted at most once is at one place at most
count_alone : (c : ℕ) (xs : List ℕ) (i j : ℕ) → count c xs ≤ 1 → slice_get xs i ≡ Some c → slice_get xs j ≡ Some c → i ≡ j
count_alone c [] i j h e f = absurd cc
count_alone c (x ∷ xs) zero zero h e f = refl
count_alone c (x ∷ xs) zero (suc j) h e f =
    let same : x ≡ c = cc in
    let one = once_same c x same in
    let more = count_at c xs j f in
    absurd (omega (arith, count-cons c x xs))
count_alone c (x ∷ xs) (suc i) zero h e f =
    let same : x ≡ c = cc in
    let one = once_same c x same in
    let more = count_at c xs i e in
    absurd (omega (arith, count-cons c x xs))
count_alone c (x ∷ xs) (suc i) (suc j) h e f = ap (λ (m : ℕ). suc m) (count_alone c xs i j (omega (arith, count-cons c x xs)) e f)

count_once : (c : ℕ) (xs : List ℕ) → ((i j : ℕ) → slice_get xs i ≡ Some c → slice_get xs j ≡ Some c → i ≡ j) → count c xs ≤ 1
count_once c [] alone = omega (arith, none)
  where
    none : count c [] ≡ 0
    none = refl
count_once c (x ∷ xs) alone =
    split (count_once c xs (λ i j f g. let same : suc i ≡ suc j = alone (suc i) (suc j) f g in omega arith)) (cases_eq x c) (count c xs) refl
  where
    split : count c xs ≤ 1 → (x ≡ c) ⊎ (x ≡ c → ⊥) → (m : ℕ) → count c xs ≡ m → count c (x ∷ xs) ≤ 1
    split rest (inr o) m e = let none = once_other c x o in omega (arith, count-cons c x xs)
    split rest (inl same) zero e = let one = once_same c x same in omega (arith, count-cons c x xs)
    split rest (inl same) (suc m) e =
        let found = place_of_count c xs (omega arith) in
        let clash : zero ≡ suc found.0 = alone zero (suc found.0) (ap (λ (d : ℕ). Some d) same) found.1 in
        absurd (omega arith)

-- the same for all routes
pub tally_at : (c : ℕ) (routes : List (List ℕ)) (k i : ℕ) → slice_get (get_or routes k []) i ≡ Some c → 1 ≤ tally c routes
tally_at c [] k i e = absurd cc
tally_at c (r ∷ rs) zero i e = let here = count_at c r i e in omega (arith, tally-cons c r rs)
tally_at c (r ∷ rs) (suc k) i e = let rest = tally_at c rs k i e in omega (arith, tally-cons c r rs)

pub place_of_tally : (c : ℕ) (routes : List (List ℕ)) → 1 ≤ tally c routes → (k : ℕ) × ((i : ℕ) × (slice_get (get_or routes k []) i ≡ Some c))
place_of_tally c [] h = absurd (omega (arith, none))
  where
    none : tally c [] ≡ 0
    none = refl
place_of_tally c (r ∷ rs) h = split (λ more. place_of_tally c rs more) (count c r) refl
  where
    split : (1 ≤ tally c rs → (k : ℕ) × ((i : ℕ) × (slice_get (get_or rs k []) i ≡ Some c))) → (m : ℕ) → count c r ≡ m
        → (k : ℕ) × ((i : ℕ) × (slice_get (get_or (r ∷ rs) k []) i ≡ Some c))
    split later zero e = let rest = later (omega (arith, tally-cons c r rs)) in (suc rest.0, rest.1)
    split later (suc m) e = (zero, place_of_count c r (omega arith))

pub tally_alone : (c : ℕ) (routes : List (List ℕ)) (k l i j : ℕ) → tally c routes ≤ 1 → slice_get (get_or routes k []) i ≡ Some c → slice_get (get_or routes l []) j ≡ Some c
    → (k ≡ l) × (i ≡ j)
tally_alone c [] k l i j h e f = absurd cc
tally_alone c (r ∷ rs) zero zero i j h e f = (refl, count_alone c r i j (omega (arith, tally-cons c r rs)) e f)
tally_alone c (r ∷ rs) zero (suc l) i j h e f =
    let one = count_at c r i e in
    let more = tally_at c rs l j f in
    absurd (omega (arith, tally-cons c r rs))
tally_alone c (r ∷ rs) (suc k) zero i j h e f =
    let one = count_at c r j f in
    let more = tally_at c rs k i e in
    absurd (omega (arith, tally-cons c r rs))
tally_alone c (r ∷ rs) (suc k) (suc l) i j h e f =
    let rest = tally_alone c rs k l i j (omega (arith, tally-cons c r rs)) e f in (ap (λ (m : ℕ). suc m) rest.0, rest.1)

abbrev AloneAt : ℕ → List (List ℕ) → Type 0
AloneAt c routes = (k l i j : ℕ) → slice_get (get_or routes k []) i ≡ Some c → slice_get (get_or routes l []) j ≡ Some c → (k ≡ l) × (i ≡ j)

tally_once : (c : ℕ) (routes : List (List ℕ)) → AloneAt c routes → tally c routes ≤ 1
tally_once c [] alone = omega (arith, none)
  where
    none : tally c [] ≡ 0
    none = refl
tally_once c (r ∷ rs) alone =
    split (tally_once c rs (λ k l i j e f. let same = alone (suc k) (suc l) i j e f in let one : suc k ≡ suc l = same.0 in (omega arith, same.1)))
    (count_once c r (λ i j e f. (alone zero zero i j e f).1)) (count c r) refl (tally c rs) refl
  where
    split : tally c rs ≤ 1 → count c r ≤ 1 → (m : ℕ) → count c r ≡ m → (o : ℕ) → tally c rs ≡ o → tally c (r ∷ rs) ≤ 1
    split rest here zero e o f = omega (arith, tally-cons c r rs)
    split rest here (suc m) e zero f = omega (arith, tally-cons c r rs)
    split rest here (suc m) e (suc o) f =
        let one = place_of_count c r (omega arith) in
        let two = place_of_tally c rs (omega arith) in
        let clash : zero ≡ suc two.0 = (alone zero (suc two.0) one.0 two.1.0 one.1 two.1.1).0 in
        absurd (omega arith)

-- a place of a plan in the plan's words
pub stands_at : (routes : List (List ℕ)) (c k i : ℕ) → slice_get (get_or routes k []) i ≡ Some c → StandsAt routes c (k + 1) (i + 1)
stands_at routes c k i e =
    let one : k + 1 - 1 ≡ k = omega arith in
    let two : i + 1 - 1 ≡ i = omega arith in
    record {
      low = omega arith;
      high = fleet routes c k i e;
      place = omega arith;
      found = ap (λ (m : ℕ). slice_get (get_or routes m []) (i + 1 - 1)) one ∙ ap (λ (m : ℕ). slice_get (get_or routes k []) m) two ∙ e;
    }
  where
    fleet : (routes : List (List ℕ)) (c k i : ℕ) → slice_get (get_or routes k []) i ≡ Some c → k + 1 ≤ length routes
    fleet [] c k i e = absurd cc
    fleet (r ∷ rs) c zero i e = omega arith
    fleet (r ∷ rs) c (suc k) i e = let rest = fleet rs c k i e in omega arith

-- in a plan each customer is counted once at most
pub tally_of_plan : (n : ℕ) (routes : List (List ℕ)) (c : ℕ) → IsPlan n routes → tally c routes ≤ 1
tally_of_plan n routes c plan =
    tally_once c routes (λ k l i j e f.
    let same = plan.alone c (k + 1) (i + 1) (l + 1) (j + 1) (stands_at routes c k i e) (stands_at routes c l j f) in
    let one : k + 1 ≡ l + 1 = same.0 in
    let two : i + 1 ≡ j + 1 = same.1 in
    (omega arith, omega arith))

pub known_of_tally : (n : ℕ) (routes : List (List ℕ)) (c : ℕ) → IsPlan n routes → 1 ≤ tally c routes → (1 ≤ c) × (c ≤ n)
known_of_tally n routes c plan h =
    let at = place_of_tally c routes h in plan.known c (at.0 + 1) (at.1.0 + 1) (stands_at routes c at.0 at.1.0 at.1.1)

-- and where each is counted once at most, and is known, there is a plan
pub plan_from_tally : (n : ℕ) (routes : List (List ℕ)) → ((c : ℕ) → tally c routes ≤ 1) → ((c : ℕ) → 1 ≤ tally c routes → (1 ≤ c) × (c ≤ n)) → IsPlan n routes
plan_from_tally n routes few known = record {
  known = λ c v p s. known c (tally_at c routes (v - 1) (p - 1) s.found);
  alone = λ c v p w q s u.
      let same = tally_alone c routes (v - 1) (w - 1) (p - 1) (q - 1) (few c) s.found u.found in
      let one : v - 1 ≡ w - 1 = same.0 in
      let two : p - 1 ≡ q - 1 = same.1 in
      let low : 1 ≤ v = s.low in
      let here : 1 ≤ w = u.low in
      let first : 1 ≤ p = s.place in
      let second : 1 ≤ q = u.place in
      (omega arith, omega arith);
}

-- the count of a route with something more, with something less, reversed, crossed, written over
pub count-more : (c : ℕ) (r s : List ℕ) (i : ℕ) → count c (take i r ++ (s ++ drop i r)) ≡ count c r + count c s
count-more c r s i =
    let whole = ap (λ (xs : List ℕ). count c xs) (take-append-drop i r) in
    let one = sum_by-append (once c) (take i r) (drop i r) in
    let two = sum_by-append (once c) (take i r) (s ++ drop i r) in
    let three = sum_by-append (once c) s (drop i r) in
    omega arith

pub count-parts : (c : ℕ) (r s : List ℕ) (i n : ℕ) → count c (take i r ++ (s ++ drop (i + n) r)) + count c (take n (drop i r)) ≡ count c r + count c s
count-parts c r s i n =
    let whole = ap (λ (xs : List ℕ). count c xs) (take-append-drop i r) in
    let back = ap (λ (xs : List ℕ). count c xs) (take-append-drop n (drop i r)) in
    let last = ap (λ (xs : List ℕ). count c xs) (drop-drop n i r) in
    let one = sum_by-append (once c) (take i r) (drop i r) in
    let two = sum_by-append (once c) (take i r) (s ++ drop (i + n) r) in
    let three = sum_by-append (once c) s (drop (i + n) r) in
    let four = sum_by-append (once c) (take n (drop i r)) (drop n (drop i r)) in
    omega arith

pub count-crossed : (c : ℕ) (r q : List ℕ) (i j : ℕ) → count c (take i r ++ drop j q) + count c (take j q ++ drop i r) ≡ count c r + count c q
count-crossed c r q i j =
    let mine = ap (λ (xs : List ℕ). count c xs) (take-append-drop i r) in
    let yours = ap (λ (xs : List ℕ). count c xs) (take-append-drop j q) in
    let one = sum_by-append (once c) (take i r) (drop i r) in
    let two = sum_by-append (once c) (take j q) (drop j q) in
    let three = sum_by-append (once c) (take i r) (drop j q) in
    let four = sum_by-append (once c) (take j q) (drop i r) in
    omega arith

count-reverse_aux : (c : ℕ) (xs ys : List ℕ) → count c (reverse_aux xs ys) ≡ count c xs + count c ys
count-reverse_aux c [] ys = omega (arith, none)
  where
    none : count c [] ≡ 0
    none = refl
count-reverse_aux c (x ∷ xs) ys = count-reverse_aux c xs (x ∷ ys) ∙ omega (arith, count-cons c x xs, count-cons c x ys)

pub count-reverse : (c : ℕ) (xs : List ℕ) → count c (reverse xs) ≡ count c xs
count-reverse c xs = count-reverse_aux c xs [] ∙ add-zero (count c xs)

-- the tally of routes of which one or two are exchanged
pub tally-one : (c : ℕ) (routes : List (List ℕ)) (v : ℕ) (r : List ℕ) → 1 ≤ v → v ≤ length routes
    → tally c (slice_set routes (v - 1) r) + count c (route_at routes v) ≡ tally c routes + count c r
tally-one c routes v r low high = sum_by-set (count c) routes (v - 1) r [] (omega arith)

pub tally-two : (c : ℕ) (routes : List (List ℕ)) (v w : ℕ) (r q : List ℕ) → 1 ≤ v → v ≤ length routes → 1 ≤ w → w ≤ length routes → v ≢ w
    → tally c (slice_set (slice_set routes (v - 1) r) (w - 1) q) + count c (route_at routes v) + count c (route_at routes w) ≡ tally c routes + count c r + count c q
tally-two c routes v w r q low high here top o =
    let away : w - 1 ≢ v - 1 = λ e. o (omega arith) in
    let long : length (slice_set routes (v - 1) r) ≡ length routes = length-set routes (v - 1) r in
    let first = tally-one c routes v r low high in
    let second = tally-one c (slice_set routes (v - 1) r) w q here (omega arith) in
    let same : count c (route_at (slice_set routes (v - 1) r) w) ≡ count c (route_at routes w) =
    ap (λ (xs : List ℕ). count c xs) (get_or-set_other routes (v - 1) (w - 1) r [] away) in
    omega arith
