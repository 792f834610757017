-- How the row of a route grows, dimension by dimension.
use Rattle.std.proofs.Common.{◌≡◌, ℕ, ◌+◌, ◌-◌, ◌*◌, ◌<◌, ◌≤◌, ◌↔◌, ◌⊎◌, ◌∙◌, Bool, true, false, IsTrue, inl, inr, refl, ap, sym, subst, arith, List, [], ◌∷◌, ◌++◌, length, take, drop, length-append}
use Rattle.std.specs.Prelude.{slice_index_or}
use Rattle.std.proofs.Math.Nat.{mul-le-mul_right}
use Rattle.std.proofs.lemmas.Bool.{cases_eq}
use Rattle.std.proofs.lemmas.List.{get_or_append_left, get_or-append_right, get_or-take, get_or-drop, take-take, length-take-le, length-drop}
use Rattle.std.proofs.lemmas.Nat.{mul-add-lt}
use Rattle.callback_store.specs.declared.meter.Meter.{Meter}
use Rattle.callback_store.specs.Meter.{Asks, AsksJust, AsksAtMost, asks_both, asks_wider}
use Rattle.dimension_core.specs.declared.range.Range.{Range}
use Rattle.dimension_core.specs.Feasible.{FitsIn, IsFirstOut}
use Rattle.dimension_core.specs.Setting.{Setting}
use Rattle.dimension_core.specs.Spans.{IsSpanOf, no_range}
use Rattle.plan_core.specs.Front.{IsCommonFront, common_front}
use Rattle.range_cache.specs.Asks.{walk_asks}
use Rattle.range_cache.specs.Cache.{RowState, IsRowOf, range_at}
use Rattle.range_cache.specs.Parts.{IsTrackAfter, HasFront}
use Rattle.range_cache.specs.Track.{IsTrack}
use Rattle.range_cache.proofs.Fronts.{front_whole}

-- the ranges of the first dimensions, so many in each, of which P holds by dimension and place
pub record AreFilled (P : ℕ → ℕ → Range → Type 0) (stops n : ℕ) (ranges : List Range) : Type 0 where
  pub sized : length ranges ≡ n * stops
  pub each : (d k : ℕ) → d < n → k < stops → P d k (slice_index_or ranges (d * stops + k) no_range)

pub filled_none : (P : ℕ → ℕ → Range → Type 0) (stops : ℕ) (ranges : List Range) → ranges ≡ [] → AreFilled P stops 0 ranges
filled_none P stops ranges e =
    subst (λ (xs : List Range). AreFilled P stops 0 xs) (sym e) (record { sized = omega arith; each = λ d k h l. absurd (omega arith) })

-- those of one more dimension
pub filled_more : (P : ℕ → ℕ → Range → Type 0) (stops n : ℕ) (ranges more : List Range) → AreFilled P stops n ranges → length more ≡ stops
    → ((k : ℕ) → k < stops → P n k (slice_index_or more k no_range)) → AreFilled P stops (n + 1) (ranges ++ more)
filled_more P stops n ranges more filled sized last =
    let old = filled.sized in
    let long : length (ranges ++ more) ≡ length ranges + length more = length-append ranges more in
    record {
      sized = omega arith;
      each = λ d k h l. at d k (cases_eq d n) h l;
    }
  where
    at : (d k : ℕ) → (d ≡ n) ⊎ (d ≡ n → ⊥) → d < n + 1 → k < stops → P d k (slice_index_or (ranges ++ more) (d * stops + k) no_range)
    at d k (inl e) h l =
        let z : n * stops + k - n * stops ≡ k = omega arith in
        let here : slice_index_or (ranges ++ more) (n * stops + k) no_range ≡ slice_index_or more k no_range =
        get_or-append_right ranges more (n * stops) (n * stops + k) no_range filled.sized (omega arith)
        ∙ ap (λ (m : ℕ). slice_index_or more m no_range) z in
        subst (λ (m : ℕ). P m k (slice_index_or (ranges ++ more) (m * stops + k) no_range)) (sym e)
        (subst (λ (x : Range). P n k x) (sym here) (last k l))
    at d k (inr o) h l =
        let below : d < n = omega arith in
        let inside : d * stops + k < stops * n = mul-add-lt d stops k n below l in
        let within = filled.sized in
        subst (λ (x : Range). P d k x) (sym (get_or_append_left ranges more no_range (d * stops + k) (omega arith))) (filled.each d k (omega arith) l)

-- the first ranges of a row, where the new route begins as the old one
pub row_front : (s : Setting) (v : ℕ) (old new : List ℕ) (row : RowState) (front : ℕ) → IsRowOf s v old row → IsCommonFront old new front → HasFront s v front new row
row_front s v old new row front kept common =
    let counted = kept.counted in
    let left = common.left in
    record {
      stops = omega (arith, counted, left);
      within = common.right;
      sized = kept.sized;
      spans = λ d k h l.
          let same : take (k + 1) old ≡ take (k + 1) new =
          sym (take-take (k + 1) front old (omega arith)) ∙ ap (take (k + 1)) common.same ∙ take-take (k + 1) front new (omega arith) in
          subst (λ (js : List ℕ). IsSpanOf s d v js (range_at row d k)) same (kept.spans d k h (omega arith));
    }

-- the ranges of one dimension that a row begins with
pub part_long : (row : RowState) (n d front : ℕ) (xs : List Range) → front ≤ row.stops → length row.ranges ≡ n * row.stops → d < n
    → xs ≡ take front (drop (d * row.stops) row.ranges) → length xs ≡ front
part_long row n d front xs few sized h e =
    let below : (d + 1) * row.stops ≤ n * row.stops = mul-le-mul_right row.stops (omega arith) in
    let rest : length (drop (d * row.stops) row.ranges) ≡ length row.ranges - d * row.stops = length-drop (d * row.stops) row.ranges in
    ap length e ∙ length-take-le front (drop (d * row.stops) row.ranges) (omega arith)

pub part_within : (row : RowState) (n d front : ℕ) → front ≤ row.stops → length row.ranges ≡ n * row.stops → d < n → d * row.stops + front ≤ length row.ranges
part_within row n d front few sized h =
    let below : (d + 1) * row.stops ≤ n * row.stops = mul-le-mul_right row.stops (omega arith) in
    omega arith

pub part_at : (row : RowState) (d front k : ℕ) (xs : List Range) → xs ≡ take front (drop (d * row.stops) row.ranges) → k < front → slice_index_or xs k no_range ≡ range_at row d k
part_at row d front k xs e h =
    ap (λ (ys : List Range). slice_index_or ys k no_range) e ∙ get_or-take front (drop (d * row.stops) row.ranges) k no_range h
    ∙ get_or-drop (d * row.stops) row.ranges k no_range

-- are those at the first customers of the route
pub front_track : (s : Setting) (v : ℕ) (route : List ℕ) (row : RowState) (d front : ℕ) (xs : List Range) → HasFront s v front route row → d < length s.dimensions
    → xs ≡ take front (drop (d * row.stops) row.ranges) → IsTrack s d v route xs
front_track s v route row d front xs has h e =
    let long = part_long row (length s.dimensions) d front xs has.stops has.sized h e in
    let few = has.within in
    record {
      within = omega arith;
      each = λ k l. subst (λ (r : Range). IsSpanOf s d v (take (k + 1) route) r) (sym (part_at row d front k xs e (omega arith))) (has.spans d k h (omega arith));
    }

-- the first dimension that is out of bounds
pub out_at : (s : Setting) (v k : ℕ) (route : List ℕ) (b : Bool) → k < length s.dimensions → ((n : ℕ) → n < k → FitsIn s n v route) → IsTrue b ↔ FitsIn s k v route → b ≡ false
    → IsFirstOut s v route (k + 1)
out_at s v k route b h before answer failed =
    let e : k + 1 - 1 ≡ k = omega arith in
    record {
      low = omega arith;
      high = omega arith;
      out = λ f. let yes : b ≡ true = answer.1 (subst (λ (n : ℕ). FitsIn s n v route) e f) in let clash : true ≡ false = sym yes ∙ failed in cc;
      before = λ n below. before n (omega arith);
    }

walk_asks-some : (old new : List ℕ) → 0 < length new → walk_asks old new ≡ length new + 1 - common_front old new
walk_asks-some old [] h = absurd (omega arith)
walk_asks-some old (c ∷ cs) h = refl

-- in one dimension, where the old route is the front of the new one
pub walk_asks_on : (before after : List ℕ) → 0 < length (before ++ after) → walk_asks before (before ++ after) ≡ length after + 1
walk_asks_on before after some =
    let one = walk_asks-some before (before ++ after) some in
    let front = front_whole before after in
    let long = length-append before after in
    omega (arith, one, front, long)

-- asks for one more dimension
module _ (a b c : Meter) (d : ℕ) (before after : List ℕ) (some : 0 < length (before ++ after)) (asked : AsksJust a b (d * walk_asks before (before ++ after))) where
  pub asks_more : AsksJust b c (length after + 1) → AsksJust a c ((d + 1) * walk_asks before (before ++ after))
  asks_more q =
      let each = walk_asks_on before after some in
      asks_both a b c _ _ _ _ _ _ asked (subst (λ (n : ℕ). AsksJust b c n) (sym each) q) (omega arith) (omega arith)

  -- and where it stops in one
  pub asks_out : (count : ℕ) → d < count → AsksAtMost b c (length after + 1) → Asks a c ((d + 1 - 1) * walk_asks before (before ++ after)) (count * walk_asks before (before ++ after))
  asks_out count h q =
      let each = walk_asks_on before after some in
      let within : (d + 1) * walk_asks before (before ++ after) ≤ count * walk_asks before (before ++ after) = mul-le-mul_right (walk_asks before (before ++ after)) (omega arith) in
      let first : (d + 1 - 1) * walk_asks before (before ++ after) ≤ d * walk_asks before (before ++ after) = mul-le-mul_right (walk_asks before (before ++ after)) (omega arith) in
      asks_both a b c _ _ _ _ _ _ asked (subst (λ (n : ℕ). AsksAtMost b c n) (sym each) q) (omega (arith, first)) (omega (arith, within))

  pub asks_stop : (count : ℕ) → d < count → AsksAtMost b c (length after + 1) → AsksAtMost a c (count * walk_asks before (before ++ after))
  asks_stop count h q =
      let out = asks_out count h q in
      asks_wider a c _ _ _ _ out (omega arith) (omega arith)

-- the ranges that a walk finds, dimension by dimension
abbrev pub IsFound : Setting → ℕ → ℕ → List ℕ → ℕ → ℕ → Range → Type 0
IsFound s v front route d k r = IsSpanOf s d v (take (front + k + 1) route) r

pub ranges_more : (s : Setting) (v front stops : ℕ) (route : List ℕ) (n : ℕ) (old new : List Range) → AreFilled (IsFound s v front route) stops n old
    → (more : List Range) × (new ≡ old ++ more) × (length more ≡ stops) × IsTrackAfter s n v front route more → AreFilled (IsFound s v front route) stops (n + 1) new
ranges_more s v front stops route n old new filled m =
    let sized : length m.0 ≡ stops = m.2 in
    subst (λ (xs : List Range). AreFilled (IsFound s v front route) stops (n + 1) xs) (sym m.1)
    (filled_more (IsFound s v front route) stops n old m.0 filled sized (λ k h. m.3.each k (omega arith)))

-- there is room for the ranges of one more dimension
pub room_for : (count n room stops : ℕ) → n < count → (used : ℕ) → used ≡ n * stops → count * stops ≤ room → used + stops ≤ room
room_for count n room stops h used e enough =
    let below : (n + 1) * stops ≤ count * stops = mul-le-mul_right stops (omega arith) in
    omega (arith, e, enough, below)
