-- How the ranges along a route grow, customer by customer.
use Rattle.std.proofs.Common.{◌≡◌, ℕ, ◌+◌, ◌-◌, ◌<◌, ◌≤◌, ◌↔◌, ◌⊎◌, ◌∙◌, inl, inr, refl, ap, sym, subst, arith, List, [], ◌∷◌, ◌++◌, append_assoc, length, take, drop, slice_index, Option, Some, None, IsTrue, is_some, false}
use Rattle.std.specs.Prelude.{slice_index_or}
use Rattle.std.proofs.lemmas.Bool.{cases_eq}
use Rattle.std.proofs.lemmas.List.{get_or_default, get_or_append_left, get_or-append_right, length_push, take_all, take-append-drop, take-append-le}
use Rattle.callback_store.specs.Tables.{Table, entry, table_at}
use Rattle.dimension_core.specs.declared.range.Range.{Range}
use Rattle.dimension_core.specs.Cumuls.{Bounds, cap_of, range_of, IsStart, IsStep, IsWithin, IsSpan, Reaches, last_of, table_of}
use Rattle.dimension_core.specs.Feasible.{FitsIn}
use Rattle.dimension_core.specs.Laws.{SpansGoOn}
use Rattle.dimension_core.specs.Setting.{Setting, dimension_at, no_bounds}
use Rattle.dimension_core.specs.Spans.{IsSpanOf, no_range}
use Rattle.range_cache.specs.Parts.{IsTrackAfter}
use Rattle.range_cache.specs.Track.{IsSpanAt, IsTrack}

-- the dimension that was read at a place
pub dim_at : (s : Setting) (ds : List Bounds) (d : Bounds) (k : ℕ) → ds ≡ s.dimensions → k < length s.dimensions → d ≡ slice_index_or ds k d → d ≡ dimension_at s k
dim_at s ds d k ed h e =
    let within : k < length ds = subst (λ (xs : List Bounds). k < length xs) (sym ed) h in
    e ∙ get_or_default ds k d no_bounds within ∙ ap (λ (xs : List Bounds). slice_index_or xs k no_bounds) ed

-- the span at the depot
pub start_at : SpansGoOn → (s : Setting) (k v : ℕ) (ds : List Bounds) (d : Bounds) (o : Option Range) → ds ≡ s.dimensions → k < length s.dimensions → d ≡ slice_index_or ds k d
    → IsSpan o (IsStart d v) → IsSpanAt s k v [] o
start_at law s k v ds d o ed h e span =
    subst (λ (x : Bounds). IsSpan o (Reaches (table_of s.tables x) x v [])) (dim_at s ds d k ed h e) (law.start (table_of s.tables d) d v o span)

-- what comes after the numbers of an interval, by the dimension and the tables that were read
step_at : (s : Setting) (k v from to : ℕ) (ts : List Table) (ds : List Bounds) (d : Bounds) (r : Range) (o : Option Range)
    → ts ≡ s.tables → ds ≡ s.dimensions → k < length s.dimensions → d ≡ slice_index_or ds k d
    → IsSpan o (λ y. (x : ℕ) × IsWithin (Some r) x × IsStep (table_of ts d) d v from x to y)
    → IsSpan o (λ y. (x : ℕ) × IsWithin (Some r) x × IsStep (table_of s.tables (dimension_at s k)) (dimension_at s k) v from x to y)
step_at s k v from to ts ds d r o et ed h e n =
    let same : d ≡ dimension_at s k = dim_at s ds d k ed h e in
    let n1 = subst (λ (xs : List Table). IsSpan o (λ y. (x : ℕ) × IsWithin (Some r) x × IsStep (table_of xs d) d v from x to y)) et n in
    subst (λ (b : Bounds). IsSpan o (λ y. (x : ℕ) × IsWithin (Some r) x × IsStep (table_of s.tables b) b v from x to y)) same n1

module _ (law : SpansGoOn) (s : Setting) (k v : ℕ) (route : List ℕ) (place from to : ℕ) (ts : List Table) (ds : List Bounds) (d : Bounds) (r : Range) (o : Option Range)
    (et : ts ≡ s.tables) (ed : ds ≡ s.dimensions) (h : k < length s.dimensions) (e : d ≡ slice_index_or ds k d)
    (span : IsSpanOf s k v (take place route) r) (last : from ≡ last_of 0 (take place route))
    (n : IsSpan o (λ y. (x : ℕ) × IsWithin (Some r) x × IsStep (table_of ts d) d v from x to y)) where
  -- the span at one more customer
  pub next_at : place < length route → to ≡ slice_index route place → IsSpanAt s k v (take (place + 1) route) o
  next_at within here =
      law.next (table_of s.tables (dimension_at s k)) (dimension_at s k) v route place from to r o within span last here (step_at s k v from to ts ds d r o et ed h e n)

  -- that at the return
  pub back_at : length route ≤ place → to ≡ 0 → IsSpanAt s k v (route ++ 0 ∷ []) o
  back_at end home =
      let t : Table = table_of s.tables (dimension_at s k) in
      let b : Bounds = dimension_at s k in
      let whole : take place route ≡ route = take_all place route end in
      let at : IsSpanOf s k v route r = subst (λ (js : List ℕ). IsSpanOf s k v js r) whole span in
      let m = step_at s k v from to ts ds d r o et ed h e n in
      let m1 = subst (λ (i : ℕ). IsSpan o (λ y. (x : ℕ) × IsWithin (Some r) x × IsStep t b v i x to y)) (last ∙ ap (last_of 0) whole) m in
      let m2 = subst (λ (j : ℕ). IsSpan o (λ y. (x : ℕ) × IsWithin (Some r) x × IsStep t b v (last_of 0 route) x j y)) home m1 in
      law.push t b v route 0 r o at m2

  -- and whether the route is in bounds, by it
  pub return_at : length route ≤ place → 0 < length route → to ≡ 0 → IsTrue (is_some o) ↔ FitsIn s k v route
  return_at end some home = law.bounds (table_of s.tables (dimension_at s k)) (dimension_at s k) v route o some (back_at end home)

-- a route is out of bounds where no cumul is left at some place
pub never : SpansGoOn → (s : Setting) (k v : ℕ) (route : List ℕ) (n : ℕ) → 0 < length route → IsSpanAt s k v (take n route) None → FitsIn s k v route → ⊥
never law s k v route n some none fits =
    let t : Table = table_of s.tables (dimension_at s k) in
    let d : Bounds = dimension_at s k in
    let e : take n route ++ (drop n route ++ 0 ∷ []) ≡ route ++ 0 ∷ [] =
    sym (append_assoc (take n route) (drop n route) (0 ∷ [])) ∙ ap (λ (xs : List ℕ). xs ++ 0 ∷ []) (take-append-drop n route) in
    let whole : IsSpanAt s k v (route ++ 0 ∷ []) None =
    subst (λ (js : List ℕ). IsSpanAt s k v js None) e (law.none t d v (take n route) (drop n route ++ 0 ∷ []) none) in
    let no : IsTrue false = (law.bounds t d v route None some whole).1 fits in
    cc

-- a false answer is right where the fact does not hold
pub no_answer : (P : Type 0) → (P → ⊥) → IsTrue false ↔ P
no_answer P out = (λ p. absurd cc, λ p. absurd (out p))

-- no range yet, and one more
pub track_none : (s : Setting) (d v front : ℕ) (route : List ℕ) → front ≤ length route → IsTrackAfter s d v front route []
track_none s d v front route within = record { within = omega arith; each = λ k h. absurd (omega arith) }

track_push : (s : Setting) (d v front : ℕ) (route : List ℕ) (more : List Range) (r : Range) → front + length more < length route → IsTrackAfter s d v front route more
    → IsSpanOf s d v (take (front + length more + 1) route) r → IsTrackAfter s d v front route (more ++ r ∷ [])
track_push s d v front route more r within track new =
    let long : length (more ++ r ∷ []) ≡ length more + 1 = length_push more r in
    record {
      within = omega arith;
      each = λ k h. at k (cases_eq k (length more)) (omega arith);
    }
  where
    at : (k : ℕ) → (k ≡ length more) ⊎ (k ≡ length more → ⊥) → k < length more + 1
        → IsSpanOf s d v (take (front + k + 1) route) (slice_index_or (more ++ r ∷ []) k no_range)
    at k (inl e) h =
        let here : slice_index_or (more ++ r ∷ []) (length more) no_range ≡ r =
        get_or-append_right more (r ∷ []) (length more) (length more) no_range refl (omega arith)
        ∙ ap (λ (m : ℕ). slice_index_or (r ∷ []) m no_range) (let z : length more - length more ≡ 0 = omega arith in z) in
        subst (λ (m : ℕ). IsSpanOf s d v (take (front + m + 1) route) (slice_index_or (more ++ r ∷ []) m no_range)) (sym e)
        (subst (λ (x : Range). IsSpanOf s d v (take (front + length more + 1) route) x) (sym here) new)
    at k (inr o) h =
        let below : k < length more = omega arith in
        subst (λ (x : Range). IsSpanOf s d v (take (front + k + 1) route) x) (sym (get_or_append_left more (r ∷ []) no_range k below)) (track.each k below)

-- the ranges so far and one more, after others
pub more_push : (s : Setting) (d v front : ℕ) (route : List ℕ) (place : ℕ) (old now after : List Range) (r : Range) → front + place < length route
    → (more : List Range) × (now ≡ old ++ more) × (length more ≡ place) × IsTrackAfter s d v front route more
    → after ≡ now ++ r ∷ [] → IsSpanOf s d v (take (front + place + 1) route) r
    → (more : List Range) × (after ≡ old ++ more) × (length more ≡ place + 1) × IsTrackAfter s d v front route more
more_push s d v front route place old now after r h m e new =
    let more : List Range = m.0 in
    let sized : length more ≡ place = m.2 in (
      more ++ r ∷ [],
      e ∙ ap (λ (xs : List Range). xs ++ r ∷ []) m.1 ∙ append_assoc old more (r ∷ []),
      length_push more r ∙ ap (λ (n : ℕ). n + 1) sized,
      track_push s d v front route more r (omega arith) m.3 (subst (λ (n : ℕ). IsSpanOf s d v (take (front + n + 1) route) r) (sym sized) new),
    )

-- the ranges that are kept at the first customers of a route are those of these customers alone
pub track_first : (s : Setting) (d v : ℕ) (before after : List ℕ) (kept : List Range) → length kept ≡ length before → IsTrack s d v (before ++ after) kept → IsTrack s d v before kept
track_first s d v before after kept each track = record {
  within = omega (arith, each);
  each = λ k h. subst (λ (js : List ℕ). IsSpanOf s d v js (slice_index_or kept k no_range)) (take-append-le (k + 1) before after (omega (arith, each, h))) (track.each k h);
}

-- what is kept does not end above the limit
pub small_at : (s : Setting) (k v : ℕ) (nodes : List ℕ) (ds : List Bounds) (d : Bounds) (r : Range) → ds ≡ s.dimensions → k < length s.dimensions → d ≡ slice_index_or ds k d
    → ((t : Table) (vehicle : ℕ) (js : List ℕ) (range : Range) → IsSpan (Some range) (Reaches t d vehicle js) → last_of 0 js < length d.ranges → range.hi ≤ 1000000000000)
    → IsSpanOf s k v nodes r → last_of 0 nodes < length d.ranges → r.hi ≤ 1000000000000
small_at s k v nodes ds d r ed h e law span known =
    law (table_of s.tables (dimension_at s k)) v nodes r
    (subst (λ (b : Bounds). IsSpan (Some r) (Reaches (table_of s.tables (dimension_at s k)) b v nodes)) (sym (dim_at s ds d k ed h e)) span) known

-- what comes after the numbers of an interval, by the answer of the dimension's callback
pub after_at : (ts : List Table) (d : Bounds) (nodes : List Range) (slack cap way i j v : ℕ) (r : Range) (o : Option Range)
    → ((t : Table) (b : Bounds) (vehicle m n : ℕ) → way ≡ entry t m n → slice_index_or nodes j no_range ≡ range_of b n → slack ≡ b.slack_max → cap ≡ cap_of b vehicle
    → IsSpan o (λ y. (x : ℕ) × IsWithin (Some r) x × IsStep t b vehicle m x n y))
    → nodes ≡ d.ranges → slack ≡ d.slack_max → cap ≡ cap_of d v
    → way ≡ entry (table_at ts d.id) i j → IsSpan o (λ y. (x : ℕ) × IsWithin (Some r) x × IsStep (table_of ts d) d v i x j y)
after_at ts d nodes slack cap way i j v r o span same most capped answer =
    span (table_of ts d) d v i j answer (ap (λ (rs : List Range). slice_index_or rs j no_range) same) most capped
