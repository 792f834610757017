use Rattle.std.proofs.Common.{◌≡◌, ℕ, ◌+◌, ◌-◌, ◌*◌, ◌<◌, ◌≤◌, ◌∙◌, sym, ap, subst, refl, arith, List, [], ◌∷◌, ◌++◌, length, take, drop, slice_index_or, is_some, inl, inr, Option, Some, None}
use Rattle.std.specs.Bool.{OnFalse}
use Rattle.std.proofs.Math.Logic.{∥∥₁_elim, ∥∥₁_map}
use Rattle.std.proofs.lemmas.Bool.{cases_order}
use Rattle.std.proofs.lemmas.List.{take-take, take-append-drop, take-append-le, take_at, take_all, length-append, get_or_default}
use Rattle.callback_store.specs.declared.meter.Meter.{Meter}
use Rattle.callback_store.specs.Meter.{AsksJust, asks_then}
use Rattle.callback_store.specs.Tables.{Table}
use Rattle.dimension_core.specs.declared.range.Range.{Range}
use Rattle.dimension_core.specs.Cumuls.{Bounds, IsSpan, AreCumuls, Reaches, last_of, table_of}
use Rattle.dimension_core.specs.Misses.{HasCumuls, IsFirstMiss, IsFirstMissIn}
use Rattle.dimension_core.specs.Setting.{Setting, dimension_at, no_bounds}
use Rattle.dimension_core.proofs.Reach.{IsWithin-prop, go_front}

-- where there is a span, there are cumuls
span_has : (t : Table) (d : Bounds) (v : ℕ) (nodes : List ℕ) (r : Range) → IsSpan (Some r) (Reaches t d v nodes) → HasCumuls t d v nodes
span_has t d v nodes r s = ∥∥₁_map (s.inside r.lo (omega arith, s.filled)) (λ q. (q.0, q.1))

-- where there is no span, there are none
span_misses : (t : Table) (d : Bounds) (v : ℕ) (nodes : List ℕ) → IsSpan None (Reaches t d v nodes) → HasCumuls t d v nodes → ⊥
span_misses t d v nodes s has = ∥∥₁_elim has (IsWithin-prop None 0) (λ q. s.all (last_of 0 q.0) ∣ (q.0, q.1, refl) ∣₁)

-- cumuls for some nodes hold some for the first of them
cumuls_front : (t : Table) (d : Bounds) (v : ℕ) (js ks : List ℕ) → HasCumuls t d v (js ++ ks) → HasCumuls t d v js
cumuls_front t d v js ks has = ∥∥₁_map has front
  where
    front : (cumuls : List ℕ) × AreCumuls t d v (js ++ ks) cumuls → (cumuls : List ℕ) × AreCumuls t d v js cumuls
    front ([], a) = absurd a
    front (c ∷ cs, a) = let r = go_front t d v 0 c js ks cs a.1 in (c ∷ r.0, (a.0, r.1))

cumuls_fewer : (t : Table) (d : Bounds) (v : ℕ) (nodes : List ℕ) (n k : ℕ) → n ≤ k → HasCumuls t d v (take k nodes) → HasCumuls t d v (take n nodes)
cumuls_fewer t d v nodes n k h has =
    let e : take n nodes ++ drop n (take k nodes) ≡ take k nodes =
    subst (λ (js : List ℕ). js ++ drop n (take k nodes) ≡ take k nodes) (take-take n k nodes h) (take-append-drop n (take k nodes)) in
    cumuls_front t d v (take n nodes) (drop n (take k nodes)) (subst (λ (js : List ℕ). HasCumuls t d v js) (sym e) has)

-- there is none at the depot
pub miss_start : (t : Table) (d : Bounds) (v : ℕ) (nodes : List ℕ) → IsSpan None (Reaches t d v []) → IsFirstMiss t d v nodes 0
miss_start t d v nodes s = record {
  within = omega arith;
  missed = span_misses t d v [] s;
  before = λ n h. absurd (omega arith);
}

-- there is none after one more node
pub miss_next : (t : Table) (d : Bounds) (v : ℕ) (nodes : List ℕ) (k : ℕ) (r : Range) → k < length nodes
    → IsSpan (Some r) (Reaches t d v (take k nodes)) → IsSpan None (Reaches t d v (take (k + 1) nodes)) → IsFirstMiss t d v nodes (k + 1)
miss_next t d v nodes k r h s none = record {
  within = omega arith;
  missed = span_misses t d v (take (k + 1) nodes) none;
  before = λ n below. cumuls_fewer t d v nodes n k (omega arith) (span_has t d v (take k nodes) r s);
}

-- there is one first miss at most
pub miss_unique : (t : Table) (d : Bounds) (v : ℕ) (nodes : List ℕ) (j k : ℕ) → IsFirstMiss t d v nodes j → IsFirstMiss t d v nodes k → j ≡ k
miss_unique t d v nodes j k one other = elim (cases_order j k) [
  | inl same ↦ same
  | inr q ↦ elim q [ inl h ↦ absurd (one.missed (other.before j h)) | inr h ↦ absurd (other.missed (one.before k h)) ]
]

-- the first miss of some nodes is that of more nodes
miss_more : (t : Table) (d : Bounds) (v : ℕ) (nodes more : List ℕ) (k : ℕ) → IsFirstMiss t d v nodes k → IsFirstMiss t d v (nodes ++ more) k
miss_more t d v nodes more k miss =
    let within = miss.within in
    record {
      within = omega (arith, length-append nodes more);
      missed = λ has. miss.missed (subst (λ (js : List ℕ). HasCumuls t d v js) (take-append-le k nodes more within) has);
      before = λ n below. subst (λ (js : List ℕ). HasCumuls t d v js) (sym (take-append-le n nodes more (omega arith))) (miss.before n below);
    }

-- a walk that ends before the return asks up to the first miss of the whole route
pub miss_outward : (t : Table) (d : Bounds) (v : ℕ) (route : List ℕ) (a b : Meter) → (k : ℕ) × IsFirstMiss t d v route k × AsksJust a b k
    → (k : ℕ) × IsFirstMiss t d v (route ++ 0 ∷ []) k × AsksJust a b k
miss_outward t d v route a b p = (p.0, miss_more t d v route (0 ∷ []) p.0 p.1, p.2)

-- so does one that ends at the return
pub miss_return : (t : Table) (d : Bounds) (v : ℕ) (route : List ℕ) (r : Range) (o : Option Range) (a b : Meter) → IsSpan (Some r) (Reaches t d v route)
    → IsSpan o (Reaches t d v (route ++ 0 ∷ [])) → AsksJust a b (length route + 1)
    → OnFalse (is_some o) ((k : ℕ) × IsFirstMiss t d v (route ++ 0 ∷ []) k × AsksJust a b k)
miss_return t d v route r (Some back) a b s n asks = tt
miss_return t d v route r None a b s n asks =
    let all = route ++ 0 ∷ [] in
    let long : length all ≡ length route + 1 = length-append route (0 ∷ []) in
    let out = subst (λ (js : List ℕ). IsSpan (Some r) (Reaches t d v js)) (sym (take_at route (0 ∷ []) (length route) refl)) s in
    let back = subst (λ (js : List ℕ). IsSpan None (Reaches t d v js)) (sym (take_all (length route + 1) all (omega (arith, long)))) n in
    (length route + 1, miss_next t d v all (length route) r (omega (arith, long)) out back, asks)

-- the first miss in one dimension, as a fact of the setting, after what was asked in those before it
pub miss_at : (s : Setting) (k v : ℕ) (route : List ℕ) (ts : List Table) (ds : List Bounds) (d : Bounds) (a b c : Meter) (m : ℕ)
    → ts ≡ s.tables → ds ≡ s.dimensions → k < length ds → d ≡ slice_index_or ds k d → AsksJust a b (k * m)
    → (j : ℕ) × IsFirstMiss (table_of ts d) d v (route ++ 0 ∷ []) j × AsksJust b c j
    → (j : ℕ) × IsFirstMissIn s (k + 1 - 1) v route j × AsksJust a c ((k + 1 - 1) * m + j)
miss_at s k v route ts ds d a b c m et ed h e asks p =
    let same : d ≡ dimension_at s k = e ∙ get_or_default ds k d no_bounds h ∙ ap (λ (xs : List Bounds). slice_index_or xs k no_bounds) ed in
    let miss = subst (λ (xs : List Table). IsFirstMiss (table_of xs d) d v (route ++ 0 ∷ []) p.0) et p.1 in
    let found : IsFirstMissIn s k v route p.0 = subst (λ (x : Bounds). IsFirstMiss (table_of s.tables x) x v (route ++ 0 ∷ []) p.0) same miss in
    let back : k ≡ k + 1 - 1 = omega arith in
    let all = asks_then a b c (k * m) (k * m) p.0 p.0 asks p.2 in (
      p.0,
      subst (λ (n : ℕ). IsFirstMissIn s n v route p.0) back found,
      subst (λ (n : ℕ). AsksJust a c (n * m + p.0)) back all,
    )
