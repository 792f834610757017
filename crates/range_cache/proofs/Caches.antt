-- Caches: of empty routes, row by row, and after new rows were taken.
use Rattle.std.proofs.Common.{◌≡◌, ℕ, zero, suc, ◌+◌, ◌-◌, ◌<◌, ◌≤◌, ◌⊎◌, ◌∙◌, inl, inr, refl, ap, sym, subst, arith, List, [], ◌∷◌, ◌++◌, length, take, replicate, length-set, slice_set}
use Rattle.std.specs.Prelude.{slice_index_or, All}
use Rattle.std.proofs.lemmas.Bool.{cases_eq}
use Rattle.std.proofs.lemmas.List.{get_or_append_left, get_or-append_right, get_or-set_same, get_or-set_other, length_push, length-replicate}
use Rattle.std.proofs.lemmas.List.Elements.{All-tail}
use Rattle.dimension_core.specs.Cumuls.{IsEarly, table_of}
use Rattle.dimension_core.specs.Feasible.{IsFirstOut, FitsAll}
use Rattle.dimension_core.specs.Laws.{SpansGoOn}
use Rattle.dimension_core.specs.NewRoutes.{Changes}
use Rattle.dimension_core.specs.Setting.{Setting, dimension_at}
use Rattle.plan_core.specs.Plan.{route_at, with_routes}
use Rattle.range_cache.specs.Cache.{RowState, CacheState, no_row, row_at, range_at, IsRowOf, IsCacheOf, HasEarly}
use Rattle.range_cache.specs.Pending.{NewRows, AreWithin, AreNewRows, with_rows}

same_each : {X : Type 0} (n k : ℕ) (x : X) → slice_index_or (replicate n x) k x ≡ x
same_each zero k x = refl
same_each (suc n) zero x = refl
same_each (suc n) (suc k) x = same_each n k x

-- the row of an empty route
pub empty_row : (s : Setting) (v : ℕ) → IsRowOf s v [] no_row
empty_row s v = record { counted = refl; sized = omega arith; spans = λ d k h l. absurd (omega arith) }

pub cache_new : (s : Setting) (rows : List RowState) → rows ≡ replicate s.vehicles no_row → IsCacheOf s (replicate s.vehicles []) (record { rows = rows })
cache_new s rows e = record {
  vehicles = length-replicate s.vehicles [];
  sized = ap length e ∙ length-replicate s.vehicles no_row;
  each = λ v low high.
      let e : List ℕ = [] in
      let route : slice_index_or (replicate s.vehicles e) (v - 1) e ≡ e = same_each s.vehicles (v - 1) e in
      let row : slice_index_or rows (v - 1) no_row ≡ no_row = ap (λ (xs : List RowState). slice_index_or xs (v - 1) no_row) rows_are ∙ same_each s.vehicles (v - 1) no_row in
      subst (λ (r : List ℕ). IsRowOf s v r (slice_index_or rows (v - 1) no_row)) (sym route) (subst (λ (r : RowState). IsRowOf s v [] r) (sym row) (empty_row s v));
}
  where
    rows_are : rows ≡ replicate s.vehicles no_row
    rows_are = e

-- the rows of the first vehicles
pub record AreMade (s : Setting) (routes : List (List ℕ)) (n : ℕ) (rows : List RowState) : Type 0 where
  pub sized : length rows ≡ n
  pub each : (v : ℕ) → 1 ≤ v → v ≤ n → IsRowOf s v (route_at routes v) (slice_index_or rows (v - 1) no_row)

pub made_none : (s : Setting) (routes : List (List ℕ)) → AreMade s routes 0 []
made_none s routes = record { sized = refl; each = λ v low high. absurd (omega arith) }

pub made_more : (s : Setting) (routes : List (List ℕ)) (n : ℕ) (rows : List RowState) (r : RowState) → AreMade s routes n rows → IsRowOf s (n + 1) (route_at routes (n + 1)) r
    → AreMade s routes (n + 1) (rows ++ r ∷ [])
made_more s routes n rows r made new =
    let sized = made.sized in
    record { sized = length_push rows r ∙ ap (λ (m : ℕ). m + 1) made.sized; each = λ v low high. at v (cases_eq v (n + 1)) low high }
  where
    at : (v : ℕ) → (v ≡ n + 1) ⊎ (v ≡ n + 1 → ⊥) → 1 ≤ v → v ≤ n + 1 → IsRowOf s v (route_at routes v) (slice_index_or (rows ++ r ∷ []) (v - 1) no_row)
    at v (inl e) low high =
        let sized = made.sized in
        let z : n + 1 - 1 - n ≡ 0 = omega arith in
        let here : slice_index_or (rows ++ r ∷ []) (n + 1 - 1) no_row ≡ r =
        get_or-append_right rows (r ∷ []) n (n + 1 - 1) no_row made.sized (omega arith) ∙ ap (λ (m : ℕ). slice_index_or (r ∷ []) m no_row) z in
        subst (λ (w : ℕ). IsRowOf s w (route_at routes w) (slice_index_or (rows ++ r ∷ []) (w - 1) no_row)) (sym e)
        (subst (λ (x : RowState). IsRowOf s (n + 1) (route_at routes (n + 1)) x) (sym here) new)
    at v (inr o) low high =
        let sized = made.sized in
        let below : v - 1 < length rows = omega arith in
        subst (λ (x : RowState). IsRowOf s v (route_at routes v) x) (sym (get_or_append_left rows (r ∷ []) no_row (v - 1) below)) (made.each v low (omega arith))

pub made_all : (s : Setting) (routes : List (List ℕ)) (n : ℕ) (rows : List RowState) → length routes ≡ s.vehicles → n ≡ s.vehicles → AreMade s routes n rows → IsCacheOf s routes (record { rows = rows })
made_all s routes n rows sized e made = record { vehicles = sized; sized = made.sized ∙ e; each = λ v low high. made.each v low (omega arith) }

-- one new row
taken_one : (s : Setting) (routes : List (List ℕ)) (rows : List RowState) (v : ℕ) (route : List ℕ) (row : RowState) → IsCacheOf s routes (record { rows = rows })
    → 1 ≤ v → v ≤ s.vehicles → IsRowOf s v route row → IsCacheOf s (slice_set routes (v - 1) route) (record { rows = slice_set rows (v - 1) row })
taken_one s routes rows v route row cache low high new = record {
  vehicles = length-set routes (v - 1) route ∙ cache.vehicles;
  sized = length-set rows (v - 1) row ∙ cache.sized;
  each = λ w first last. at w (cases_eq w v) first last;
}
  where
    at : (w : ℕ) → (w ≡ v) ⊎ (w ≡ v → ⊥) → 1 ≤ w → w ≤ s.vehicles → IsRowOf s w (route_at (slice_set routes (v - 1) route) w) (slice_index_or (slice_set rows (v - 1) row) (w - 1) no_row)
    at w (inl e) first last =
        let vehicles = cache.vehicles in
        let sized = cache.sized in
        let within : v - 1 < length routes = omega arith in
        let inside : v - 1 < length rows = omega arith in
        subst (λ (u : ℕ). IsRowOf s u (route_at (slice_set routes (v - 1) route) u) (slice_index_or (slice_set rows (v - 1) row) (u - 1) no_row)) (sym e)
        (subst (λ (r : List ℕ). IsRowOf s v r (slice_index_or (slice_set rows (v - 1) row) (v - 1) no_row)) (sym (get_or-set_same routes (v - 1) route [] within))
        (subst (λ (x : RowState). IsRowOf s v route x) (sym (get_or-set_same rows (v - 1) row no_row inside)) new))
    at w (inr o) first last =
        let away : w - 1 ≡ v - 1 → ⊥ = λ e. o (omega arith) in
        subst (λ (r : List ℕ). IsRowOf s w r (slice_index_or (slice_set rows (v - 1) row) (w - 1) no_row)) (sym (get_or-set_other routes (v - 1) (w - 1) route [] away))
        (subst (λ (x : RowState). IsRowOf s w (route_at routes w) x) (sym (get_or-set_other rows (v - 1) (w - 1) row no_row away)) (cache.each w first last))

-- the cache after new rows were taken is that of the new routes
pub taken_all : (s : Setting) (routes : List (List ℕ)) (changes : Changes) (news : NewRows) (rows : List RowState) → IsCacheOf s routes (record { rows = rows })
    → AreNewRows s changes news → IsCacheOf s (with_routes changes routes) (record { rows = with_rows news rows })
taken_all s routes [] [] rows cache new = cache
taken_all s routes (c ∷ cs) (r ∷ rs) rows cache new =
    let e : r.0 ≡ c.0 = new.0.2 in
    subst (λ (v : ℕ). IsCacheOf s (with_routes cs (slice_set routes (c.0 - 1) c.1)) (record { rows = with_rows rs (slice_set rows (v - 1) r.1) })) (sym e)
    (taken_all s (slice_set routes (c.0 - 1) c.1) cs rs (slice_set rows (c.0 - 1) r.1) (taken_one s routes rows c.0 c.1 r.1 cache new.0.0 new.0.1 new.0.3) new.1)
taken_all s routes [] (r ∷ rs) rows cache new = absurd new
taken_all s routes (c ∷ cs) [] rows cache new = absurd new

-- the least number of a kept range is the early value
pub early_at : SpansGoOn → (s : Setting) (routes : List (List ℕ)) (cache : CacheState) (d v place y : ℕ) → HasEarly s routes cache d v place
    → y ≡ (range_at (row_at cache v) (d - 1) (place - 1)).lo
    → IsEarly (table_of s.tables (dimension_at s (d - 1))) (dimension_at s (d - 1)) v (take place (route_at routes v)) y
early_at law s routes cache d v place y has e =
    let first = has.first_dimension in
    let last = has.last_dimension in
    let low = has.first_place in
    let high = has.last_place in
    let back : place - 1 + 1 ≡ place = omega arith in
    let row = has.kept.each v has.first_vehicle has.last_vehicle in
    let span = row.spans (d - 1) (place - 1) (omega arith) (omega arith) in
    let early = law.early (table_of s.tables (dimension_at s (d - 1))) (dimension_at s (d - 1)) v (take (place - 1 + 1) (route_at routes v)) (range_at (row_at cache v) (d - 1) (place - 1)) span in
    subst (λ (n : ℕ). IsEarly (table_of s.tables (dimension_at s (d - 1))) (dimension_at s (d - 1)) v (take n (route_at routes v)) y) back
    (subst (λ (x : ℕ). IsEarly (table_of s.tables (dimension_at s (d - 1))) (dimension_at s (d - 1)) v (take (place - 1 + 1) (route_at routes v)) x) (sym e) early)

-- a route that is in bounds is out of bounds in no dimension
pub not_out : (s : Setting) (v : ℕ) (r : List ℕ) (d : ℕ) → FitsAll s v r → IsFirstOut s v r d → ⊥
not_out s v r d fits out = let low = out.low in let high = out.high in out.out (fits (d - 1) (omega arith))

-- between two exchanges: with the rows that are left, the rows become the promised ones
pub record AreTaking (target now : List RowState) (rest : NewRows) : Type 0 where
  pub made : with_rows rest now ≡ target
  pub within : All (λ r. (1 ≤ r.0) × (r.0 ≤ length now)) rest

pub taking_first : (pending : NewRows) (now old : List RowState) (cache : CacheState) (rest : NewRows) → rest ≡ pending → now ≡ old → AreWithin cache pending → cache ≡ record { rows = old }
    → AreTaking (with_rows pending old) now rest
taking_first pending now old cache rest e f within same = record {
  made = ap (λ (xs : NewRows). with_rows xs now) e ∙ ap (λ (xs : List RowState). with_rows pending xs) f;
  within = subst (λ (xs : NewRows). All (λ r. (1 ≤ r.0) × (r.0 ≤ length now)) xs) (sym e)
      (subst (λ (n : ℕ). All (λ r. (1 ≤ r.0) × (r.0 ≤ n)) pending) (ap (λ (x : CacheState). length x.rows) same ∙ ap length (sym f)) within);
}

pub taking_within : (target now : List RowState) (all rest : NewRows) (v : ℕ) (row : RowState) → AreTaking target now all → all ≡ (v, row) ∷ rest → v - 1 < length now
taking_within target now all rest v row t e =
    let t' = subst (λ (xs : NewRows). AreTaking target now xs) e t in
    let first = t'.within 0 (v, row) (omega arith) in
    let low : 1 ≤ v = first.0 in
    let high : v ≤ length now = first.1 in
    omega arith

pub taking_low : (target now : List RowState) (all rest : NewRows) (v : ℕ) (row : RowState) → AreTaking target now all → all ≡ (v, row) ∷ rest → 1 ≤ v
taking_low target now all rest v row t e =
    let t' = subst (λ (xs : NewRows). AreTaking target now xs) e t in
    (t'.within 0 (v, row) (omega arith)).0

pub taking_next : (target now : List RowState) (all rest : NewRows) (v : ℕ) (row : RowState) → AreTaking target now all → all ≡ (v, row) ∷ rest
    → AreTaking target (slice_set now (v - 1) row) rest
taking_next target now all rest v row t e =
    let t' = subst (λ (xs : NewRows). AreTaking target now xs) e t in
    record {
      made = t'.made;
      within = subst (λ (n : ℕ). All (λ r. (1 ≤ r.0) × (r.0 ≤ n)) rest) (sym (length-set now (v - 1) row)) (All-tail (λ r. (1 ≤ r.0) × (r.0 ≤ length now)) (v, row) rest t'.within);
    }

pub taking_last : (target now : List RowState) (all : NewRows) → AreTaking target now all → all ≡ [] → now ≡ target
taking_last target now all t e = (subst (λ (xs : NewRows). AreTaking target now xs) e t).made

-- and then the cache is that of the new routes
pub taken_cache : (s : Setting) (routes : List (List ℕ)) (changes : Changes) (news : NewRows) (cache : CacheState) (rows : List RowState) → rows ≡ with_rows news cache.rows
    → IsCacheOf s routes cache → AreNewRows s changes news → IsCacheOf s (with_routes changes routes) (record { rows = rows })
taken_cache s routes changes news cache rows e kept new =
    subst (λ (xs : List RowState). IsCacheOf s (with_routes changes routes) (record { rows = xs })) (sym e) (taken_all s routes changes news cache.rows kept new)
