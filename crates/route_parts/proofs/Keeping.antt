-- Spans kept along a route, from both ends.
use Rattle.std.proofs.Common.{◌≡◌, ◌∙◌, ℕ, ◌+◌, ◌-◌, ◌*◌, ◌<◌, Fits, w32, w64, ◌≤◌, suc, inl, inr, refl, sym, ap, subst, arith, List, [], ◌∷◌, ◌++◌, length, take, drop, slice_index, slice_index_or, Option, None, All, Result, Ok, Err, IfOk, mul-le-mul}
use Rattle.std.proofs.lemmas.Bool.{cases_lt}
use Rattle.std.proofs.lemmas.List.{get_or_push, get_or_append_left, length-append, length-take-le, length-drop, take_all, take_more, drop_more, get_or_default}
use Rattle.std.proofs.lemmas.Nat.{same_from_place, mul-add-lt}
use Rattle.callback_store.specs.Tables.{Table}
use Rattle.dimension_core.specs.declared.range.Range.{Range}
use Rattle.dimension_core.specs.Cumuls.{Bounds, IsServed, IsSpan, Reaches, table_of, last_of}
use Rattle.dimension_core.specs.Onward.{IsOnward}
use Rattle.dimension_core.specs.Setting.{Setting, IsSetting, dimension_at, no_bounds}
use Rattle.plan_core.specs.Plan.{route_at}
use Rattle.pin_core.specs.View.{ViewState}
use Rattle.route_parts.specs.Given.{Laws}
use Rattle.route_parts.specs.View.{IsViewOf}
use Rattle.route_parts.specs.Kept.{SpanTable, span_at, GoesOn, IsAhead, IsBehind, AreCells, AreAhead, AreBehind, HasAhead, HasBehind, KeptSpans, AreKept}

-- one number more of a table
pub cells_more : (P : ℕ → ℕ → Option Range → Type 0) (w i j : ℕ) (cells : List (Option Range)) (x : Option Range) → j < w → AreCells P w (i * w + j) cells
    → P i j x → AreCells P w (i * w + (j + 1)) (cells ++ x ∷ [])
cells_more P w i j cells x h f p = record {
  counted = let a = length-append cells (x ∷ []) in let b = f.counted in omega arith;
  each = λ k place below within. elim (cases_lt (k * w + place) (i * w + j)) [
    | inl less ↦
        let inside : k * w + place < length cells = let b = f.counted in omega arith in
        subst (P k place) (sym (get_or_append_left cells (x ∷ []) None (k * w + place) inside)) (f.each k place below less)
    | inr more ↦
        let at : k * w + place ≡ i * w + j = omega arith in
        let same = same_from_place k place i j w below h at in
        let last : length cells ≡ k * w + place = f.counted ∙ sym at in
        subst (P k place) (sym (get_or_push cells x None (k * w + place) last))
        (subst (λ (n : ℕ). P n place x) (sym same.0) (subst (λ (n : ℕ). P i n x) (sym same.1) p))
  ];
}

pub cells_none : (P : ℕ → ℕ → Option Range → Type 0) (w : ℕ) → AreCells P w (0 * w) []
cells_none P w = record { counted = omega arith; each = λ k place below within. absurd (omega arith) }

pub cells_at : (P : ℕ → ℕ → Option Range → Type 0) (w n m : ℕ) (cells : List (Option Range)) → n ≡ m → AreCells P w n cells → AreCells P w m cells
cells_at P w n m cells e h = subst (λ (k : ℕ). AreCells P w k cells) e h

-- a whole row of a table
pub cells_row : (P : ℕ → ℕ → Option Range → Type 0) (w k i : ℕ) (cells : List (Option Range)) → i + 1 ≡ w → AreCells P w (k * w + (i + 1)) cells → AreCells P w ((k + 1) * w) cells
cells_row P w k i cells e all = cells_at P w (k * w + (i + 1)) ((k + 1) * w) cells (omega arith) all

-- the way to the depot from the last customers of a route, its next stop, and the cumuls there
pub record IsTail (t : Table) (d : Bounds) (v : ℕ) (back : List ℕ) (next : ℕ) (o : Option Range) : Type 0 where
  pub rest : List ℕ
  pub is : back ++ 0 ∷ [] ≡ next ∷ rest
  pub span : IsSpan o (IsOnward t d v next rest)

pub tail_spans : (t : Table) (d : Bounds) (v : ℕ) (back : List ℕ) (next : ℕ) (o : Option Range) → IsTail t d v back next o → IsSpan o (GoesOn t d v (back ++ 0 ∷ []))
tail_spans t d v back next o tail = subst (λ (js : List ℕ). IsSpan o (GoesOn t d v js)) (sym tail.is) tail.span

pub tail_more : (t : Table) (d : Bounds) (v : ℕ) (r : List ℕ) (j next node : ℕ) (span o : Option Range) → j < length r → node ≡ slice_index r (length r - 1 - j)
    → IsTail t d v (drop (length r - j) r) next span → ((rest : List ℕ) → IsSpan span (IsOnward t d v next rest) → IsSpan o (IsOnward t d v node (next ∷ rest)))
    → IsTail t d v (drop (length r - (j + 1)) r) node o
tail_more t d v r j next node span o h e tail on =
    let a : length r - (j + 1) ≡ length r - 1 - j = omega arith in
    let b : length r - 1 - j + 1 ≡ length r - j = omega arith in
    let split : drop (length r - (j + 1)) r ≡ node ∷ drop (length r - j) r =
    ap (λ (n : ℕ). drop n r) a ∙ drop_more r (length r - 1 - j) 0 (omega arith) ∙ ap (λ (n : ℕ). slice_index r (length r - 1 - j) ∷ drop n r) b ∙ ap (λ (n : ℕ). n ∷ drop (length r - j) r) (sym e) in
    record {
      rest = next ∷ tail.rest;
      is = ap (λ (js : List ℕ). js ++ 0 ∷ []) split ∙ ap (λ (js : List ℕ). node ∷ js) tail.is;
      span = on tail.rest tail.span;
    }

drop_end : (r : List ℕ) → drop (length r - 0) r ≡ []
drop_end r = none (drop (length r - 0) r) (let e = length-drop (length r - 0) r in omega arith)
  where
    none : (xs : List ℕ) → length xs ≡ 0 → xs ≡ []
    none [] e = refl
    none (x ∷ xs) e = absurd (omega arith)

pub tail_none : (t : Table) (d : Bounds) (v : ℕ) (r : List ℕ) (o : Option Range) → IsSpan o (IsOnward t d v 0 []) → IsTail t d v (drop (length r - 0) r) 0 o
tail_none t d v r o span = record { rest = []; is = ap (λ (js : List ℕ). js ++ 0 ∷ []) (drop_end r); span = span }

-- all that follows some customers
pub rest_whole : (r : List ℕ) (i : ℕ) → take (length r - i) (drop i r) ≡ drop i r
rest_whole r i = take_all (length r - i) (drop i r) (let e = length-drop i r in omega arith)

-- what is kept of a route serves each front and each back of it
pub kept_front : (s : Setting) (v : ℕ) (r : List ℕ) (spans : SpanTable) (front : List ℕ) (i : ℕ) → AreAhead s v r spans → i ≤ length r → front ≡ take i r → HasAhead s v front spans
kept_front s v r spans front i all h e =
    let long : length front ≡ i = ap length e ∙ length-take-le i r h in
    let wide = all.width in
    let within : (k : ℕ) → k < length s.dimensions → k * spans.width + length front < length s.dimensions * spans.width =
    λ k b. place_within k (length front) spans.width (length s.dimensions) b (omega arith) in
    record {
      within = λ k b. subst (λ (n : ℕ). k * spans.width + length front < n) (sym all.cells.counted) (within k b);
      each = λ k b. subst (λ (xs : List ℕ). IsAhead s v xs k (span_at spans k (length front))) (ap (λ (n : ℕ). take n r) long ∙ sym e) (all.cells.each k (length front) (omega arith) (within k b));
    }
  where
    place_within : (k place w n : ℕ) → k < n → place < w → k * w + place < n * w
    place_within k place w n a b = let m = mul-add-lt k w place n a b in omega arith

pub kept_back : (s : Setting) (v : ℕ) (r : List ℕ) (spans : SpanTable) (back : List ℕ) (i : ℕ) → AreBehind s v r spans → i ≤ length r → back ≡ drop i r → HasBehind s v back spans
kept_back s v r spans back i all h e =
    let long : length back ≡ length r - i = ap length e ∙ length-drop i r in
    let wide = all.width in
    let at : length r - length back ≡ i = omega arith in
    let within : (k : ℕ) → k < length s.dimensions → k * spans.width + length back < length s.dimensions * spans.width =
    λ k b. place_within k (length back) spans.width (length s.dimensions) b (omega arith) in
    record {
      within = λ k b. subst (λ (n : ℕ). k * spans.width + length back < n) (sym all.cells.counted) (within k b);
      each = λ k b. subst (λ (xs : List ℕ). IsBehind s v xs k (span_at spans k (length back))) (ap (λ (n : ℕ). drop n r) at ∙ sym e) (all.cells.each k (length back) (omega arith) (within k b));
    }
  where
    place_within : (k place w n : ℕ) → k < n → place < w → k * w + place < n * w
    place_within k place w n a b = let m = mul-add-lt k w place n a b in omega arith

-- the same of what a borrow of it shows, of a front and of all that follows
pub own_front : (s : Setting) (v : ℕ) (r : List ℕ) (kept opened : KeptSpans) (i : ℕ) → opened ≡ kept → (0 < kept.ahead.width → AreAhead s v r kept.ahead) → i ≤ length r
    → 0 < opened.ahead.width → HasAhead s v (take i r) opened.ahead
own_front s v r kept opened i e all h wide =
    kept_front s v r opened.ahead (take i r) i (subst (λ (k : KeptSpans). 0 < k.ahead.width → AreAhead s v r k.ahead) (sym e) all wide) h refl

pub own_back : (s : Setting) (v : ℕ) (r : List ℕ) (kept opened : KeptSpans) (i : ℕ) → opened ≡ kept → (0 < kept.behind.width → AreBehind s v r kept.behind) → i ≤ length r
    → 0 < opened.behind.width → HasBehind s v (take (length r - i) (drop i r)) opened.behind
own_back s v r kept opened i e all h wide =
    kept_back s v r opened.behind (take (length r - i) (drop i r)) i (subst (λ (k : KeptSpans). 0 < k.behind.width → AreBehind s v r k.behind) (sym e) all wide) h (rest_whole r i)

pub other_back : (s : Setting) (v : ℕ) (q : List ℕ) (kept opened : KeptSpans) (i : ℕ) → opened ≡ kept → (0 < kept.over.width → AreBehind s v q kept.over) → i ≤ length q
    → 0 < opened.over.width → HasBehind s v (take (length q - i) (drop i q)) opened.over
other_back s v q kept opened i e all h wide =
    kept_back s v q opened.over (take (length q - i) (drop i q)) i (subst (λ (k : KeptSpans). 0 < k.over.width → AreBehind s v q k.over) (sym e) all wide) h (rest_whole q i)

-- the last of some customers
pub last_at : (n : ℕ) (xs : List ℕ) → 0 < length xs → slice_index xs (length xs - 1) ≡ last_of n xs
last_at n [] h = absurd (omega arith)
last_at n (x ∷ []) h = refl
last_at n (x ∷ (y ∷ ys)) h =
    let e : length (x ∷ (y ∷ ys)) - 1 ≡ suc (length (y ∷ ys) - 1) = omega arith in
    ap (slice_index (x ∷ (y ∷ ys))) e ∙ last_at x (y ∷ ys) (omega arith)

-- the first of some customers, and what comes after it up to the depot
pub first_at : (xs : List ℕ) → 0 < length xs → (rest : List ℕ) × (xs ++ 0 ∷ [] ≡ slice_index xs 0 ∷ rest)
first_at [] h = absurd (omega arith)
first_at (x ∷ xs) h = (xs ++ 0 ∷ [], refl)

pub last_known : (P : ℕ → Type 0) (n : ℕ) (xs : List ℕ) → P n → All P xs → P (last_of n xs)
last_known P n [] p all = p
last_known P n (x ∷ xs) p all = last_known P x xs (all 0 0 (omega arith)) (λ k d h. all (suc k) d (omega arith))

-- a dimension of a setting, and what it knows
-- the customers of a vehicle of a view
pub known_of : (law : Laws) (s : Setting) (view : ViewState) (v : ℕ) (xs : List ℕ) → IsViewOf s view → xs ≡ route_at view.routes v → All (λ c. c ≤ s.customers) xs
known_of law s view v xs is e =
    subst (λ (ys : List ℕ). All (λ c. c ≤ s.customers) ys) (sym e) (λ k d h. (law.known.known s.customers view.routes v is.plan k d h).1)

pub short_of : (law : Laws) (s : Setting) (view : ViewState) (v : ℕ) (xs : List ℕ) → IsViewOf s view → s.customers ≤ 1000 → xs ≡ route_at view.routes v → length xs ≤ 1000
short_of law s view v xs is few e = subst (λ (ys : List ℕ). length ys ≤ 1000) (sym e) (most (length (route_at view.routes v)) s.customers (law.known.short s.customers view.routes v is.plan) few)
  where
    most : (a b : ℕ) → a ≤ b → b ≤ 1000 → a ≤ 1000
    most a b h few = omega arith

pub in_place : (k : ℕ) (xs ys : List Bounds) → xs ≡ ys → k < length xs → k < length ys
in_place k xs ys e h = subst (λ (zs : List Bounds). k < length zs) e h

pub below_end : (k m : ℕ) (xs ys : List Bounds) → xs ≡ ys → length xs ≤ m → k < length ys → k < m
below_end k m xs ys e h less = let same = ap length e in omega arith

pub none_below : (n : ℕ) → 0 ≤ n
none_below n = omega arith

pub width_fits : (n : ℕ) → n ≤ 1000 → Fits w64 (n + 1)
width_fits n few = omega arith

pub cells_fit : (n : ℕ) (xs ys : List Bounds) → xs ≡ ys → length ys ≤ 8 → n ≤ 1000 → Fits w64 (length xs * (n + 1))
cells_fit n xs ys e most few =
    let same = ap length e in
    let high : length xs ≤ 8 = omega arith in
    let wide : n + 1 ≤ 1001 = omega arith in
    let all : length xs * (n + 1) ≤ 8 * 1001 = mul-le-mul {n₁ = length xs} {m₁ = n + 1} {n₂ = 8} {m₂ = 1001} high wide in
    omega arith

pub from_end : (k n : ℕ) → k < n → n - 1 - k < n
from_end k n h = omega arith

pub at_place : (s : Setting) (k : ℕ) (ds : List Bounds) (d : Bounds) → ds ≡ s.dimensions → k < length ds → d ≡ slice_index_or ds k d → d ≡ dimension_at s k
at_place s k ds d ed h e = e ∙ get_or_default ds k d no_bounds h ∙ ap (λ (xs : List Bounds). slice_index_or xs k no_bounds) ed

pub node_known : (s : Setting) (k node : ℕ) (d : Bounds) → IsSetting s → k < length s.dimensions → d ≡ dimension_at s k → node ≤ s.customers → node < length d.ranges
node_known s k node d sound h same low =
    let a = sound.ranges k h in
    subst (λ (x : Bounds). node < length x.ranges) (sym same) (omega arith)

pub vehicle_known : (s : Setting) (k v : ℕ) (d : Bounds) → IsSetting s → k < length s.dimensions → d ≡ dimension_at s k → v ≤ s.vehicles → v ≤ length d.caps
vehicle_known s k v d sound h same low =
    let a = sound.caps k h in
    subst (λ (x : Bounds). v ≤ length x.caps) (sym same) (omega arith)

pub served_here : (s : Setting) (k : ℕ) (ts : List Table) (d : Bounds) → IsServed s.tables (dimension_at s k) → ts ≡ s.tables → d ≡ dimension_at s k → IsServed ts d
served_here s k ts d served et same = subst (λ (xs : List Table). IsServed xs d) (sym et) (subst (λ (x : Bounds). IsServed s.tables x) (sym same) served)

-- the spans from the front so far
abbrev pub AheadCells : Setting → ℕ → List ℕ → ℕ → List (Option Range) → Type 0
AheadCells s v r n cells = AreCells (λ k place span. IsAhead s v (take place r) k span) (length r + 1) n cells

pub ahead_first : (s : Setting) (v : ℕ) (r : List ℕ) (k : ℕ) (cells : List (Option Range)) (d : Bounds) (o : Option Range) → AheadCells s v r (k * (length r + 1)) cells
    → d ≡ dimension_at s k → IsSpan o (Reaches (table_of s.tables d) d v []) → AheadCells s v r (k * (length r + 1) + (0 + 1)) (cells ++ o ∷ [])
ahead_first s v r k cells d o all same span =
    cells_more (λ k place span. IsAhead s v (take place r) k span) (length r + 1) k 0 cells o (omega arith)
    (cells_at (λ k place span. IsAhead s v (take place r) k span) (length r + 1) (k * (length r + 1)) (k * (length r + 1) + 0) cells (omega arith) all)
    (subst (λ (x : Bounds). IsSpan o (Reaches (table_of s.tables x) x v [])) same span)

pub ahead_more : (s : Setting) (v : ℕ) (r : List ℕ) (k i : ℕ) (cells : List (Option Range)) (d : Bounds) (o : Option Range) → i < length r → AheadCells s v r (k * (length r + 1) + (i + 1)) cells
    → d ≡ dimension_at s k → IsSpan o (Reaches (table_of s.tables d) d v (take (i + 1) r)) → AheadCells s v r (k * (length r + 1) + (i + 1 + 1)) (cells ++ o ∷ [])
ahead_more s v r k i cells d o h all same span =
    cells_more (λ k place span. IsAhead s v (take place r) k span) (length r + 1) k (i + 1) cells o (omega arith) all
    (subst (λ (x : Bounds). IsSpan o (Reaches (table_of s.tables x) x v (take (i + 1) r))) same span)

-- the next span from the front
pub span_on : (ts us : List Table) (d : Bounds) (v : ℕ) (r : List ℕ) (i from : ℕ) (span o : Option Range) → ts ≡ us → i < length r → IsSpan span (Reaches (table_of us d) d v (take i r)) → from ≡ last_of 0 (take i r)
    → ((done : List ℕ) → IsSpan span (Reaches (table_of ts d) d v done) → from ≡ last_of 0 done → IsSpan o (Reaches (table_of ts d) d v (done ++ slice_index r i ∷ [])))
    → IsSpan o (Reaches (table_of us d) d v (take (i + 1) r))
span_on ts us d v r i from span o et h so_far last on =
    let step = on (take i r) (subst (λ (xs : List Table). IsSpan span (Reaches (table_of xs d) d v (take i r))) (sym et) so_far) last in
    subst (λ (xs : List ℕ). IsSpan o (Reaches (table_of us d) d v xs)) (sym (take_more r i 0 h))
    (subst (λ (xs : List Table). IsSpan o (Reaches (table_of xs d) d v (take i r ++ slice_index r i ∷ []))) et step)

-- the spans from the back so far
abbrev pub BehindCells : Setting → ℕ → List ℕ → ℕ → List (Option Range) → Type 0
BehindCells s v r n cells = AreCells (λ k place span. IsBehind s v (drop (length r - place) r) k span) (length r + 1) n cells

pub behind_first : (s : Setting) (v : ℕ) (r : List ℕ) (k next : ℕ) (cells : List (Option Range)) (d : Bounds) (o : Option Range) → BehindCells s v r (k * (length r + 1)) cells
    → d ≡ dimension_at s k → IsTail (table_of s.tables d) d v (drop (length r - 0) r) next o → BehindCells s v r (k * (length r + 1) + (0 + 1)) (cells ++ o ∷ [])
behind_first s v r k next cells d o all same tail =
    cells_more (λ k place span. IsBehind s v (drop (length r - place) r) k span) (length r + 1) k 0 cells o (omega arith)
    (cells_at (λ k place span. IsBehind s v (drop (length r - place) r) k span) (length r + 1) (k * (length r + 1)) (k * (length r + 1) + 0) cells (omega arith) all)
    (subst (λ (x : Bounds). IsSpan o (GoesOn (table_of s.tables x) x v (drop (length r - 0) r ++ 0 ∷ []))) same (tail_spans (table_of s.tables d) d v (drop (length r - 0) r) next o tail))

pub behind_more : (s : Setting) (v : ℕ) (r : List ℕ) (k i next : ℕ) (cells : List (Option Range)) (d : Bounds) (o : Option Range) → i < length r → BehindCells s v r (k * (length r + 1) + (i + 1)) cells
    → d ≡ dimension_at s k → IsTail (table_of s.tables d) d v (drop (length r - (i + 1)) r) next o → BehindCells s v r (k * (length r + 1) + (i + 1 + 1)) (cells ++ o ∷ [])
behind_more s v r k i next cells d o h all same tail =
    cells_more (λ k place span. IsBehind s v (drop (length r - place) r) k span) (length r + 1) k (i + 1) cells o (omega arith) all
    (subst (λ (x : Bounds). IsSpan o (GoesOn (table_of s.tables x) x v (drop (length r - (i + 1)) r ++ 0 ∷ []))) same (tail_spans (table_of s.tables d) d v (drop (length r - (i + 1)) r) next o tail))

-- the next span from the back
pub tail_on : (ts us : List Table) (d : Bounds) (v : ℕ) (r : List ℕ) (i next : ℕ) (span o : Option Range) → ts ≡ us → i < length r → IsTail (table_of us d) d v (drop (length r - i) r) next span
    → ((rest : List ℕ) → IsSpan span (IsOnward (table_of ts d) d v next rest) → IsSpan o (IsOnward (table_of ts d) d v (slice_index r (length r - 1 - i)) (next ∷ rest)))
    → IsTail (table_of us d) d v (drop (length r - (i + 1)) r) (slice_index r (length r - 1 - i)) o
tail_on ts us d v r i next span o et h tail on =
    tail_more (table_of us d) d v r i next (slice_index r (length r - 1 - i)) span o h refl tail
    (subst (λ (xs : List Table). (rest : List ℕ) → IsSpan span (IsOnward (table_of xs d) d v next rest) → IsSpan o (IsOnward (table_of xs d) d v (slice_index r (length r - 1 - i)) (next ∷ rest))) et on)

pub kept_as : (s : Setting) (routes : List (List ℕ)) (v w : ℕ) (kept opened : KeptSpans) → opened ≡ kept → AreKept s routes v w kept → AreKept s routes v w opened
kept_as s routes v w kept opened e all = subst (λ (x : KeptSpans). AreKept s routes v w x) (sym e) all

-- what is kept of both ends of a route, and of the end of another
pub kept_both : (s : Setting) (routes : List (List ℕ)) (v w : ℕ) (other : List ℕ) (kept : KeptSpans) (over : SpanTable) → other ≡ route_at routes w
    → AreKept s routes v v kept → AreBehind s v other over → AreKept s routes v w (record { ahead = kept.ahead; behind = kept.behind; over = over })
kept_both s routes v w other kept over e own o = record {
  ahead = own.ahead;
  behind = own.behind;
  over = λ _ _. subst (λ (r : List ℕ). AreBehind s v r over) e o;
}

pub some_as : (kept all : KeptSpans) → kept ≡ all → (0 < all.ahead.width) × (0 < all.behind.width) → (0 < kept.ahead.width) × (0 < kept.behind.width)
some_as kept all e some = subst (λ (k : KeptSpans). (0 < k.ahead.width) × (0 < k.behind.width)) (sym e) some

pub kept_alone : (s : Setting) (routes : List (List ℕ)) (v : ℕ) (own : List ℕ) (ahead behind over : SpanTable) → own ≡ route_at routes v
    → AreAhead s v own ahead → AreBehind s v own behind → AreKept s routes v v (record { ahead = ahead; behind = behind; over = over })
kept_alone s routes v own ahead behind over e a b = record {
  ahead = λ _. subst (λ (r : List ℕ). AreAhead s v r ahead) e a;
  behind = λ _. subst (λ (r : List ℕ). AreBehind s v r behind) e b;
  over = λ apart _. absurd (apart refl);
}

pub ahead_some : (s : Setting) (v : ℕ) (r : List ℕ) (spans : SpanTable) → AreAhead s v r spans → 0 < spans.width
ahead_some s v r spans a = let wide = a.width in omega arith

pub behind_some : (s : Setting) (v : ℕ) (r : List ℕ) (spans : SpanTable) → AreBehind s v r spans → 0 < spans.width
behind_some s v r spans b = let wide = b.width in omega arith

-- what follows where a result is a success
pub ok_then : {A E : Type 0} (r : Result A E) (P Q : Type 0) → (P → Q) → IfOk r (λ _. P) → IfOk r (λ _. Q)
ok_then (Ok x) P Q f h = f h
ok_then (Err e) P Q f h = tt
