-- What is answered where a cache is opened, and where a row of it is changed.
use Rattle.std.proofs.Common.{◌≡◌, ◌∙◌, ℕ, ◌+◌, ◌-◌, ◌*◌, ◌<◌, ◌≤◌, Fits, w32, w64, ap, sym, subst, arith, List, [], ◌∷◌, ◌++◌, length, take, replicate, Result, Ok, Err, IfOk}
use Rattle.std.specs.Prelude.{OnOk, IsErrAnd, All, slice_index_or}
use Rattle.std.proofs.lemmas.List.{get_or_default, replicate-append-replicate}
use Rattle.callback_store.specs.declared.meter.Meter.{Meter}
use Rattle.callback_store.specs.Meter.{AsksJust, AsksAtMost, none_asked}
use Rattle.dimension_core.specs.Setting.{Setting}
use Rattle.plan_core.specs.Cost.{route_asks, asks_of}
use Rattle.plan_core.specs.Plan.{route_at}
use Rattle.range_cache.specs.Asks.{walk_asks}
use Rattle.dimension_core.specs.Spans.{IsSpanOf}
use Rattle.range_cache.specs.Cache.{RowState, CacheState, no_row, row_at, range_at, IsRowOf, IsCacheOf}
use Rattle.range_cache.specs.Parts.{HasFront, IsTailOf}
use Rattle.range_cache.proofs.Caches.{AreMade, made_none}
use Rattle.range_cache.proofs.FirstAsks.{walk_first}

-- numbers
pub few_fit : (n m : ℕ) → n ≡ m → m ≤ 1000 → Fits w64 n
few_fit n m e few = omega arith

pub next_fits : (k n m : ℕ) → k < n → n ≡ m → m ≤ 1000 → Fits w32 (k + 1)
next_fits k n m h e few = omega arith

pub some_next : (k : ℕ) → 1 ≤ k + 1
some_next k = omega arith

pub next_most : (k n m : ℕ) → k < n → n ≡ m → k + 1 ≤ m
next_most k n m h e = omega arith

pub below_as : (k n m l : ℕ) → k < n → n ≡ m → l ≡ m → k < l
below_as k n m l h e f = omega arith

pub all_counted : (k n m : ℕ) → n ≡ m → n ≤ k → k ≤ n → k ≡ m
all_counted k n m e last most = omega arith

pub end_as : (k n m : ℕ) → n ≡ m → k ≡ m → n ≤ k
end_as k n m e f = omega arith

pub at_most_as : (v n m : ℕ) → n ≡ m → v ≤ m → v ≤ n
at_most_as v n m e h = omega arith

pub place_below : (v n m k l : ℕ) → 1 ≤ v → v ≤ l → n ≡ m → m ≡ k → k ≡ l → v - 1 < n
place_below v n m k l low high d e f = omega arith

-- one more empty row
pub one_more : (n : ℕ) (xs ys : List RowState) (x : RowState) → xs ≡ replicate n no_row → x ≡ no_row → ys ≡ xs ++ x ∷ [] → ys ≡ replicate (n + 1) no_row
one_more n xs ys x e f g =
    g ∙ ap (λ (zs : List RowState). zs ++ x ∷ []) e ∙ ap (λ (y : RowState). replicate n no_row ++ y ∷ []) f ∙ replicate-append-replicate n 1 no_row

-- there is no cache where there is an error
pub not_opened : (s : Setting) (routes : List (List ℕ)) {E : Type 0} (r : Result CacheState E) (Q : E → Type 0) → IsErrAnd r Q → IfOk r (IsCacheOf s routes)
not_opened s routes (Ok x) Q h = absurd h
not_opened s routes (Err y) Q h = tt

-- what opening a cache answers
pub record IsOpened (s : Setting) (routes : List (List ℕ)) (from to : Meter) {E : Type 0} (r : Result CacheState E) : Type 0 where
  pub cache : IfOk r (IsCacheOf s routes)
  pub asks : AsksAtMost from to (length s.dimensions * asks_of routes)
  pub whole : OnOk r (AsksJust from to (length s.dimensions * asks_of routes))

pub opened_none : (s : Setting) (routes : List (List ℕ)) (from to : Meter) {E : Type 0} (r : Result CacheState E) (Q : E → Type 0) → IsErrAnd r Q
    → AsksAtMost from to (length s.dimensions * asks_of routes) → IsOpened s routes from to r
opened_none s routes from to (Ok x) Q h asked = absurd h
opened_none s routes from to (Err y) Q h asked = record { cache = tt; asks = asked; whole = tt }

pub first_made : (s : Setting) (routes : List (List ℕ)) (rows : List RowState) → rows ≡ [] → AreMade s routes 0 rows
first_made s routes rows e = subst (λ (xs : List RowState). AreMade s routes 0 xs) (sym e) (made_none s routes)

pub first_asked : (m : Meter) (n k : ℕ) → k ≡ 0 → AsksJust m m (n * k)
first_asked m n k e = let none : n * k ≡ 0 = ap (λ (j : ℕ). n * j) e ∙ nothing n in subst (λ (j : ℕ). AsksJust m m j) (sym none) (none_asked m)
  where
    nothing : (n : ℕ) → n * 0 ≡ 0
    nothing n = omega arith

-- the row of a vehicle
pub none_kept : (s : Setting) (v : ℕ) (route : List ℕ) (row : RowState) → row ≡ no_row → HasFront s v 0 route row
none_kept s v route row e =
    subst (λ (x : RowState). HasFront s v 0 route x) (sym e) (record { stops = omega arith; within = omega arith; sized = omega arith; spans = λ d k h l. absurd (omega arith) })

pub tail_whole : (s : Setting) (v : ℕ) (route : List ℕ) (row : RowState) → IsTailOf s v 0 route row → IsRowOf s v route row
tail_whole s v route row tail =
    let counted = tail.counted in
    record {
      counted = omega (arith, counted);
      sized = tail.sized;
      spans = λ d k h l. let none : 0 + k + 1 ≡ k + 1 = omega arith in
          subst (λ (n : ℕ). IsSpanOf s d v (take n route) (range_at row d k)) none (tail.spans d k h (omega (arith, counted, l)));
    }

pub kept_row : (s : Setting) (routes : List (List ℕ)) (v : ℕ) (old : List ℕ) (cache opened : CacheState) (row : RowState) → opened ≡ cache → IsCacheOf s routes cache → 1 ≤ v → v ≤ s.vehicles
    → old ≡ route_at routes v → row ≡ slice_index_or opened.rows (v - 1) row → v - 1 < length opened.rows → IsRowOf s v old row
kept_row s routes v old cache opened row e kept low high f is h =
    let here : row ≡ row_at cache v = is ∙ get_or_default opened.rows (v - 1) row no_row h ∙ ap (λ (x : CacheState). row_at x v) e in
    subst (λ (xs : List ℕ). IsRowOf s v xs row) (sym f) (subst (λ (x : RowState). IsRowOf s v (route_at routes v) x) (sym here) (kept.each v low high))

pub known_as : (n m : ℕ) (xs ys : List ℕ) → xs ≡ ys → n ≡ m → All (λ c. (1 ≤ c) × (c ≤ n)) ys → All (λ c. c ≤ m) xs
known_as n m xs ys e f all =
    subst (λ (zs : List ℕ). All (λ c. c ≤ m) zs) (sym e) (subst (λ (k : ℕ). All (λ c. c ≤ k) ys) f (λ k d h. (all k d h).1))

pub all_as : (m : ℕ) (xs ys : List ℕ) → xs ≡ ys → All (λ c. c ≤ m) ys → All (λ c. c ≤ m) xs
all_as m xs ys e all = subst (λ (zs : List ℕ). All (λ c. c ≤ m) zs) (sym e) all

pub short_as : (xs ys : List ℕ) → xs ≡ ys → length ys ≤ 1000 → length xs ≤ 1000
short_as xs ys e short = subst (λ (zs : List ℕ). length zs ≤ 1000) (sym e) short

-- the asks of a first row
pub first_asks : (n : ℕ) (xs ys : List ℕ) → xs ≡ ys → n * walk_asks [] xs ≡ n * route_asks ys
first_asks n xs ys e = ap (λ (k : ℕ). n * k) (walk_first xs ∙ ap route_asks e)

pub first_most : (a b : Meter) (n : ℕ) (xs ys : List ℕ) → xs ≡ ys → AsksAtMost a b (n * walk_asks [] xs) → AsksAtMost a b (n * route_asks ys)
first_most a b n xs ys e p = subst (λ (k : ℕ). AsksAtMost a b k) (first_asks n xs ys e) p

pub first_just : (a b : Meter) (n : ℕ) (xs ys : List ℕ) → xs ≡ ys → AsksJust a b (n * walk_asks [] xs) → AsksJust a b (n * route_asks ys)
first_just a b n xs ys e p = subst (λ (k : ℕ). AsksJust a b k) (first_asks n xs ys e) p
