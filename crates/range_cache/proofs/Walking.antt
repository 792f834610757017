-- What is answered where a route is walked along in one dimension, and what is known of what the walk reads.
use Rattle.std.proofs.Common.{◌≡◌, ◌∙◌, ℕ, ◌+◌, ◌-◌, ◌*◌, ◌==◌, ◌<◌, ◌≤◌, ◌↔◌, Fits, w64, Bool, true, false, zero, suc, refl, ap, sym, subst, arith, List, [], ◌∷◌, ◌++◌, length, take, slice_index_or, Option, Some, None, IfSome, IsTrue, is_some, eqb-true, length-append}
use Rattle.std.specs.Prelude.{MatchOption, All}
use Rattle.std.proofs.lemmas.Bool.{false≢true}
use Rattle.std.proofs.lemmas.List.{get_or-append-add, get_or_append_left, take-append-le}
use Rattle.callback_store.specs.declared.meter.Meter.{Meter}
use Rattle.callback_store.specs.Meter.{AsksJust, AsksAtMost, no_ask, asks_wider}
use Rattle.callback_store.specs.Tables.{Table, entry, nodes_of, table_at}
use Rattle.dimension_core.specs.declared.range.Range.{Range}
use Rattle.dimension_core.specs.Cumuls.{Bounds, IsSpan, Reaches, last_of, table_of}
use Rattle.dimension_core.specs.Feasible.{FitsIn}
use Rattle.dimension_core.specs.Laws.{SpansGoOn}
use Rattle.dimension_core.specs.Misses.{MissesAreFound}
use Rattle.dimension_core.specs.Setting.{Setting, IsSetting, dimension_at}
use Rattle.dimension_core.specs.Spans.{IsSpanOf, no_range}
use Rattle.range_cache.specs.Parts.{IsTrackAfter}
use Rattle.range_cache.specs.Track.{IsSpanAt, IsTrack}
use Rattle.range_cache.proofs.Misses.{Missed, missed_start, missed_at, missed_back}
use Rattle.range_cache.proofs.Tracks.{dim_at, never, no_answer, small_at}

-- places and lengths
pub in_list : (k : ℕ) (xs ys : List Bounds) → xs ≡ ys → k < length ys → k < length xs
in_list k xs ys e h = subst (λ (zs : List Bounds). k < length zs) (sym e) h

pub offset_fits : (k n : ℕ) → k < n → n ≤ 8 → Fits w64 (k * 72)
offset_fits k n h few = omega arith

pub some_kept : (n : ℕ) (b : Bool) → b ≡ (n == 0) → b ≡ false → 1 ≤ n
some_kept zero b e f = absurd (false≢true (sym f ∙ e))
some_kept (suc n) b e f = omega arith

pub last_below : (n : ℕ) → 1 ≤ n → n - 1 < n
last_below n some = omega arith

pub last_within : (n m : ℕ) → 1 ≤ n → n ≤ m → n - 1 < m
last_within n m some few = omega arith

pub room_first : (old cap after : ℕ) → old + after ≤ cap → old + after ≤ cap + 0
room_first old cap after room = omega arith

pub room_next : (now after cap_now cap_after route place : ℕ) → now + route ≤ cap_now + place → after ≡ now + 1 → cap_after ≡ cap_now → after + route ≤ cap_after + (place + 1)
room_next now after cap_now cap_after route place room long same = omega arith

pub room_left : (now cap route place : ℕ) → now + route ≤ cap + place → place < route → now < cap
room_left now cap route place room h = omega arith

pub same_room : (old now after : ℕ) → old ≤ now → after ≡ now → old ≤ after
same_room old now after less same = omega arith

pub none_least : (n : ℕ) → 0 ≤ n
none_least n = omega arith

pub no_less : (n : ℕ) → n ≤ n
no_less n = omega arith

-- asks along the way
few_next : (place n : ℕ) → place < n → place + 1 ≤ n + 1
few_next place n h = omega arith

pub asks_few : (a b : Meter) (n : ℕ) → AsksJust a b n → AsksAtMost a b n
asks_few a b n p = asks_wider a b n n 0 n p (none_least n) (no_less n)

-- what is known of a dimension and of the callbacks that were read
module _ (s : Setting) (k : ℕ) (ds : List Bounds) (d : Bounds) (set : IsSetting s) (ed : ds ≡ s.dimensions) (h : k < length s.dimensions) (e : d ≡ slice_index_or ds k d) where
  pub asked_id : (id : ℕ) (ts : List Table) → ts ≡ s.tables → id ≡ d.id → id < length ts
  asked_id id ts et ei =
      subst (λ (xs : List Table). id < length xs) (sym et) (subst (λ (n : ℕ). n < length s.tables) (sym (ei ∙ ap (λ (b : Bounds). b.id) (dim_at s ds d k ed h e))) (set.ids k h))

  -- the callback of a dimension has its table
  pub asked_table : (id : ℕ) (ts : List Table) (t : Table) → ts ≡ s.tables → id ≡ d.id → t ≡ table_at ts id → t ≡ table_of s.tables (dimension_at s k)
  asked_table id ts t et ei is =
      is ∙ ap (λ (xs : List Table). table_at xs id) et ∙ ap (λ (n : ℕ). table_at s.tables n) (ei ∙ ap (λ (b : Bounds). b.id) (dim_at s ds d k ed h e))

  -- and what it answers is the table's
  pub answered : (t : Table) (way i j : ℕ) → way ≡ entry t i j → t ≡ table_of s.tables (dimension_at s k) → way ≡ entry (table_at s.tables d.id) i j
  answered t way i j is same =
      is ∙ ap (λ (u : Table). entry u i j) (same ∙ sym (ap (λ (b : Bounds). table_at s.tables b.id) (dim_at s ds d k ed h e)))

  pub known_there : (n : ℕ) → n ≤ s.customers → n < length d.ranges
  known_there n known =
      let sized : length d.ranges ≡ s.customers + 1 = ap (λ (b : Bounds). length b.ranges) (dim_at s ds d k ed h e) ∙ set.ranges k h in
      omega arith

  pub capped_there : (v : ℕ) → v ≤ s.vehicles → v ≤ length d.caps
  capped_there v high =
      let sized : length d.caps ≡ s.vehicles = ap (λ (b : Bounds). length b.caps) (dim_at s ds d k ed h e) ∙ set.caps k h in
      omega arith

pub asked_size : (s : Setting) (ts : List Table) (n : ℕ) → IsSetting s → ts ≡ s.tables → n ≡ nodes_of ts → n ≡ s.customers + 1
asked_size s ts n set et is = is ∙ ap (λ (xs : List Table). nodes_of xs) et ∙ set.tables

pub asked_there : (size customers n : ℕ) → size ≡ customers + 1 → n ≤ customers → n < size
asked_there size customers n is known = omega (arith, is)

-- what the first range is
pub record IsBegun (s : Setting) (k v : ℕ) (route : List ℕ) (kept : ℕ) (r : Option (Range × ℕ)) : Type 0 where
  pub span : MatchOption r (IsSpanAt s k v [] None) (λ at. IsSpanOf s k v (take kept route) at.0)
  pub node : IfSome r (λ at. at.1 ≡ last_of 0 (take kept route))
  pub known : IfSome r (λ at. at.1 ≤ s.customers)
  pub small : IfSome r (λ at. at.0.hi ≤ 1000000000000)

pub begun_none : (s : Setting) (k v : ℕ) (route : List ℕ) (kept : ℕ) (r : Option (Range × ℕ)) → r ≡ None → IsSpanAt s k v [] None → IsBegun s k v route kept r
begun_none s k v route kept r e none =
    subst (λ (o : Option (Range × ℕ)). IsBegun s k v route kept o) (sym e) (record { span = none; node = tt; known = tt; small = tt })

pub begun_first : (s : Setting) (k v : ℕ) (route : List ℕ) (kept : ℕ) (b : Bool) (start : Range) → b ≡ (kept == 0) → b ≡ true → IsSpanAt s k v [] (Some start) → start.hi ≤ 1000000000000
    → IsBegun s k v route kept (Some (start, 0))
begun_first s k v route zero b start e t span small = record { span = span; node = refl; known = omega arith; small = small }
begun_first s k v route (suc kept) b start e t span small = let n : suc kept ≡ 0 = eqb-true (suc kept) 0 (sym e ∙ t) in absurd (omega arith)

pub begun_last : SpansGoOn → (s : Setting) (k v : ℕ) (route : List ℕ) (kept : List Range) (ds : List Bounds) (d : Bounds) → IsSetting s → ds ≡ s.dimensions → k < length s.dimensions → d ≡ slice_index_or ds k d
    → ((t : Table) (vehicle : ℕ) (js : List ℕ) (range : Range) → IsSpan (Some range) (Reaches t d vehicle js) → last_of 0 js < length d.ranges → range.hi ≤ 1000000000000)
    → ((i c : ℕ) → i < length route → slice_index_or route i c ≤ s.customers) → IsTrack s k v route kept → 1 ≤ length kept
    → IsBegun s k v route (length kept) (Some (slice_index_or kept (length kept - 1) no_range, slice_index_or route (length kept - 1) 0))
begun_last law s k v route kept ds d set ed h e small all track some =
    let few = track.within in
    let back : length kept - 1 + 1 ≡ length kept = omega arith in
    let below : length kept - 1 < length kept = omega arith in
    let inside : length kept - 1 < length route = omega arith in
    let span : IsSpanOf s k v (take (length kept) route) (slice_index_or kept (length kept - 1) no_range) =
    subst (λ (n : ℕ). IsSpanOf s k v (take n route) (slice_index_or kept (length kept - 1) no_range)) back (track.each (length kept - 1) below) in
    let node : slice_index_or route (length kept - 1) 0 ≡ last_of 0 (take (length kept) route) = law.last route (length kept - 1) inside ∙ ap (λ (n : ℕ). last_of 0 (take n route)) back in
    let known : slice_index_or route (length kept - 1) 0 ≤ s.customers = all (length kept - 1) 0 inside in
    record {
      span = span;
      node = node;
      known = known;
      small = small_at s k v (take (length kept) route) ds d _ ed h e small span (subst (λ (n : ℕ). n < length d.ranges) node (known_there s k ds d set ed h e _ known));
    }

-- places in the whole route
module _ (before after : List ℕ) (place : ℕ) where
  long : length (before ++ after) ≡ length before + length after
  long = length-append before after

  pub within_route : place < length after → length before + place < length (before ++ after)
  within_route h = let e = long in omega (arith, e)

  pub past_route : length after ≤ place → length (before ++ after) ≤ length before + place
  past_route h = let e = long in omega (arith, e)

  pub route_within : length (before ++ after) ≤ length before + place → place ≤ length after → length before + place ≤ length (before ++ after)
  route_within h l = let e = long in omega (arith, e)

  pub node_there : (d : ℕ) → slice_index_or after place d ≡ slice_index_or (before ++ after) (length before + place) d
  node_there d = sym (get_or-append-add before after place d)

  pub one_after : length before + place + 1 ≡ length before + (place + 1)
  one_after = omega arith

  pub asked_from : place + 1 ≡ length before + place + 1 - length before
  asked_from = omega arith

pub front_within : (before after : List ℕ) → length before ≤ length (before ++ after)
front_within before after = let e = length-append before after in omega (arith, e)

-- what is known of all customers of a route is known of its first ones, and of those after them
pub known_first : (m : ℕ) (before after : List ℕ) → All (λ c. c ≤ m) (before ++ after) → All (λ c. c ≤ m) before
known_first m before after all k d h =
    let e = length-append before after in
    subst (λ (n : ℕ). n ≤ m) (get_or_append_left before after d k h) (all k d (omega (arith, e, h)))

pub known_next : (m : ℕ) (before after : List ℕ) → All (λ c. c ≤ m) (before ++ after) → All (λ c. c ≤ m) after
known_next m before after all k d h =
    subst (λ (n : ℕ). n ≤ m) (get_or-append-add before after k d) (all (length before + k) d (within_route before after k h))

-- the span at the end of the kept ranges, by the whole route
pub whole_first : (before after : List ℕ) (kept : ℕ) → kept ≡ length before → take kept before ≡ take (length before + 0) (before ++ after)
whole_first before after kept e =
    let z : length before + 0 ≡ length before = omega arith in
    let same : take (length before) (before ++ after) ≡ take (length before) before = take-append-le (length before) before after (no_less (length before)) in
    ap (λ (n : ℕ). take n before) e ∙ sym same ∙ ap (λ (n : ℕ). take n (before ++ after)) (sym z)

-- what a walk answers
pub record IsWalked (s : Setting) (k v : ℕ) (before after : List ℕ) (old new : List Range) (from to : Meter) (r : Bool) : Type 0 where
  pub bounds : IsTrue r ↔ FitsIn s k v (before ++ after)
  pub ranges : IsTrue r → (more : List Range) × (new ≡ old ++ more) × (length more ≡ length after) × IsTrackAfter s k v (length before) (before ++ after) more
  pub asks : AsksAtMost from to (length after + 1)
  pub whole : IsTrue r → AsksJust from to (length after + 1)
  pub missed : r ≡ false → Missed s k v (before ++ after) (length before) from to

module _ (s : Setting) (k v : ℕ) (before after : List ℕ) (old new : List Range) (from to : Meter) where
  walked_out : (FitsIn s k v (before ++ after) → ⊥) → AsksAtMost from to (length after + 1)
      → Missed s k v (before ++ after) (length before) from to → IsWalked s k v before after old new from to false
  walked_out out asked missed =
      record { bounds = no_answer (FitsIn s k v (before ++ after)) out; ranges = λ t. absurd (false≢true t); asks = asked; whole = λ t. absurd (false≢true t); missed = λ _. missed }

  pub walked_to : SpansGoOn → MissesAreFound → (place : ℕ) (r : Range) → 0 < length (before ++ after) → place < length after
      → IsSpanOf s k v (take (length before + place) (before ++ after)) r → IsSpanAt s k v (take (length before + place + 1) (before ++ after)) None
      → AsksJust from to (place + 1) → IsWalked s k v before after old new from to false
  walked_to law misses place r some h span none asked =
      walked_out (never law s k v (before ++ after) (length before + place + 1) some none)
      (asks_wider from to _ _ _ _ asked (none_least _) (few_next place (length after) h))
      (missed_at misses s k v (before ++ after) (length before + place) (length before) r from to span (within_route before after place h) none
      (subst (λ (n : ℕ). AsksJust from to n) (asked_from before after place) asked))

  pub walked_all : MissesAreFound → (place : ℕ) (r : Range) (o : Option Range) (found : Bool) → length after ≤ place → place ≤ length after
      → found ≡ is_some o → IsTrue (is_some o) ↔ FitsIn s k v (before ++ after) → IsSpanAt s k v ((before ++ after) ++ 0 ∷ []) o
      → IsSpanOf s k v (take (length before + place) (before ++ after)) r
      → (more : List Range) × (new ≡ old ++ more) × (length more ≡ place) × IsTrackAfter s k v (length before) (before ++ after) more
      → AsksJust from to (length after + 1) → IsWalked s k v before after old new from to found
  walked_all misses place r o found end few e answer back span m asked =
      let all : place ≡ length after = omega arith in
      let last : length (before ++ after) ≤ length before + place = past_route before after place end in
      let there : AsksJust from to (length before + place + 1 - length before) =
      subst (λ (n : ℕ). AsksJust from to n) (asked_from before after place) (subst (λ (n : ℕ). AsksJust from to (n + 1)) (sym all) asked) in
      record {
        bounds = subst (λ (x : Bool). IsTrue x ↔ FitsIn s k v (before ++ after)) (sym e) answer;
        ranges = λ _. (m.0, m.1, m.2 ∙ all, m.3);
        asks = asks_few from to _ asked;
        whole = λ _. asked;
        missed = λ none. missed_back misses s k v (before ++ after) (length before + place) (length before) r o from to span (route_within before after place last few) last back
            (sym e ∙ none) there;
      }

pub walked_none : SpansGoOn → MissesAreFound → (s : Setting) (k v : ℕ) (before after : List ℕ) (old new : List Range) (m : Meter) → 0 < length (before ++ after) → IsSpanAt s k v [] None
    → IsWalked s k v before after old new m m false
walked_none law misses s k v before after old new m some none =
    walked_out s k v before after old new m m (never law s k v (before ++ after) 0 some none) (no_ask m _) (missed_start misses s k v (before ++ after) (length before) m none)
