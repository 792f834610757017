-- What is answered where a draft is walked, and the row that is made of it.
use Rattle.std.proofs.Common.{◌≡◌, ◌∙◌, ℕ, ◌+◌, ◌-◌, ◌<◌, ◌≤◌, ◌⊎◌, inl, inr, ap, sym, subst, arith, List, ◌∷◌, ◌++◌, length, take, drop, Result, Ok, Err, slice_set}
use Rattle.std.specs.Prelude.{OnOk, slice_index_or}
use Rattle.std.proofs.lemmas.Bool.{cases_eq, cases_lt}
use Rattle.std.proofs.lemmas.List.{take_all, get_or_default, get_or-set_same, get_or-set_other, length-take-le, length-drop}
use Rattle.callback_store.specs.declared.meter.Meter.{Meter}
use Rattle.dimension_core.specs.declared.range.Range.{Range}
use Rattle.dimension_core.specs.Setting.{Setting}
use Rattle.dimension_core.specs.Spans.{IsSpanOf}
use Rattle.plan_core.specs.Drafts.{DraftState, drafted, routes_by}
use Rattle.plan_core.specs.Front.{IsCommonFront, common_front}
use Rattle.plan_core.specs.Laws.{FrontsAreCommon}
use Rattle.plan_core.specs.Plan.{route_at}
use Rattle.range_cache.specs.Cache.{RowState, range_at, IsRowOf}
use Rattle.range_cache.specs.Parts.{HasFront, IsTailOf, IsJoin, IsFreshOf, AreFreshOf}
use Rattle.range_cache.specs.declared.fault.JudgeFault.{JudgeFault}
use Rattle.range_cache.specs.declared.fresh.Fresh.{Fresh}
use Rattle.range_cache.proofs.Changing.{IsChange, changed_from}
use Rattle.range_cache.proofs.Fronts.{front_whole, parts_join, parts_front}
use Rattle.range_cache.proofs.Judging.{next_of}
use Rattle.range_cache.proofs.Rows.{row_front}

-- a new route in two parts: those of its first customers that the old one has too, and those after them
pub record IsParted (routes : List (List ℕ)) (d : DraftState) (front : ℕ) (before after : List ℕ) : Type 0 where
  pub whole : before ++ after ≡ drafted routes d
  pub long : length before ≡ front
  pub common : IsCommonFront (route_at routes d.vehicle) (drafted routes d) front

parted : FrontsAreCommon → (old rest : List ℕ) (kept more : ℕ) → kept ≤ length old → IsCommonFront (drop kept old) rest more → more ≡ common_front (drop kept old) rest
    → IsCommonFront old (take kept old ++ rest) (kept + more)
parted law old rest kept more within common is =
    subst (λ (n : ℕ). IsCommonFront old (take kept old ++ rest) n) (sym (parts_front old rest kept more within common is)) (law.is old (take kept old ++ rest))

-- a slice from a place on
slice_rest : (n : ℕ) (xs : List ℕ) → take (length xs - n) (drop n xs) ≡ drop n xs
slice_rest n xs = let long = length-drop n xs in take_all (length xs - n) (drop n xs) (omega (arith, long))

pub parted_draft : FrontsAreCommon → (routes : List (List ℕ)) (d : DraftState) (old rest : List ℕ) (kept more : ℕ) → d.kept ≤ length (route_at routes d.vehicle)
    → old ≡ route_at routes d.vehicle → rest ≡ d.rest → kept ≡ d.kept → IsCommonFront (take (length old - kept) (drop kept old)) rest more
    → more ≡ common_front (take (length old - kept) (drop kept old)) rest → IsParted routes d (kept + more) (take (kept + more) old) (take (length rest - more) (drop more rest))
parted_draft law routes d old rest kept more few e f g common is =
    let within : kept ≤ length old = omega (arith, few, g, ap length e) in
    let new : take kept old ++ rest ≡ drafted routes d = λ i. take (g i) (e i) ++ f i in
    let front = subst (λ (xs : List ℕ). IsCommonFront xs rest more) (slice_rest kept old) common in
    let value : more ≡ common_front (drop kept old) rest = is ∙ ap (λ (xs : List ℕ). common_front xs rest) (slice_rest kept old) in
    let left = front.left in
    let long = length-drop kept old in
    record {
      whole = ap (λ (xs : List ℕ). take (kept + more) old ++ xs) (slice_rest more rest) ∙ parts_join old rest kept more within front ∙ new;
      long = length-take-le (kept + more) old (omega (arith, left, long, within));
      common = subst (λ (xs : List ℕ). IsCommonFront xs (drafted routes d) (kept + more)) e
          (subst (λ (xs : List ℕ). IsCommonFront old xs (kept + more)) new (parted law old rest kept more within front value));
    }

module _ (s : Setting) (routes : List (List ℕ)) (d : DraftState) (v front : ℕ) (before after : List ℕ) (named : v ≡ d.vehicle) (parts : IsParted routes d front before after) where
  -- the row of the old route begins with the ranges of the first part
  pub parted_front : (row : RowState) → IsRowOf s v (route_at routes v) row → HasFront s v (length before) (before ++ after) row
  parted_front row kept =
      subst (λ (w : ℕ). HasFront s w (length before) (before ++ after) row) (sym named)
      (subst (λ (xs : List ℕ). HasFront s d.vehicle (length before) xs row) (sym parts.whole)
      (subst (λ (n : ℕ). HasFront s d.vehicle n (drafted routes d) row) (sym parts.long)
      (row_front s d.vehicle (route_at routes d.vehicle) (drafted routes d) row front
      (subst (λ (w : ℕ). IsRowOf s w (route_at routes w) row) named kept) parts.common)))

  -- what is answered of the parts is answered of the new route
  pub parted_change : FrontsAreCommon → (from to : Meter) (r : Result (Unit {0}) JudgeFault) (row : RowState) → IsChange s v before (before ++ after) from to r (IsTailOf s v (length before) (before ++ after) row)
      → IsChange s d.vehicle (route_at routes d.vehicle) (drafted routes d) from to r (IsFreshOf s routes d (record { front = front; row = row }))
  parted_change law from to r row change =
      let new : List ℕ = drafted routes d in
      let old : List ℕ = route_at routes d.vehicle in
      let same : common_front before new ≡ common_front old new =
      ap (λ (xs : List ℕ). common_front before xs) (sym parts.whole) ∙ front_whole before after ∙ parts.long ∙ law.only old new front parts.common in
      let here : IsChange s d.vehicle before new from to r (IsTailOf s d.vehicle front new row) =
      subst (λ (w : ℕ). IsChange s w before new from to r (IsTailOf s w front new row)) named
      (subst (λ (n : ℕ). IsChange s v before new from to r (IsTailOf s v n new row)) parts.long
      (subst (λ (xs : List ℕ). IsChange s v before xs from to r (IsTailOf s v (length before) xs row)) parts.whole change)) in
      let all = changed_from s d.vehicle old before new from to r (IsTailOf s d.vehicle front new row) same here in
      record { fits = all.fits; row = fresh r all.row; fault = all.fault; asks = all.asks; whole = all.whole; least = all.least; missed = all.missed }
    where
      fresh : (r : Result (Unit {0}) JudgeFault) → OnOk r (IsTailOf s d.vehicle front (drafted routes d) row) → OnOk r (IsFreshOf s routes d (record { front = front; row = row }))
      fresh (Ok x) tail = record { common = parts.common; tail = tail }
      fresh (Err e) tail = tt

-- the row that is joined is that of the new route
pub joined_row : (s : Setting) (v front : ℕ) (route : List ℕ) (old fresh row : RowState) → HasFront s v front route old → IsTailOf s v front route fresh
    → IsJoin (length s.dimensions) front old fresh row → IsRowOf s v route row
joined_row s v front route old fresh row has tail join =
    let counted = join.counted in
    let whole = tail.counted in
    record {
      counted = counted ∙ whole;
      sized = join.sized;
      spans = λ d k h l. at d k h l (cases_lt k front);
    }
  where
    at : (d k : ℕ) → d < length s.dimensions → k < length route → (k < front) ⊎ (front ≤ k) → IsSpanOf s d v (take (k + 1) route) (range_at row d k)
    at d k h l (inl low) = subst (λ (r : Range). IsSpanOf s d v (take (k + 1) route) r) (sym (join.first d k h low)) (has.spans d k h low)
    at d k h l (inr high) =
        let whole = tail.counted in
        let below : k - front < fresh.stops = omega (arith, whole, high, l) in
        let back : front + (k - front) ≡ k = omega arith in
        let span : IsSpanOf s d v (take (front + (k - front) + 1) route) (range_at row d (front + (k - front))) =
        subst (λ (r : Range). IsSpanOf s d v (take (front + (k - front) + 1) route) r) (sym (join.after d (k - front) h below)) (tail.spans d (k - front) h below) in
        subst (λ (n : ℕ). IsSpanOf s d v (take (n + 1) route) (range_at row d n)) back span

-- one more new route was walked
pub fresh_next : {R : Type 0} (draft : R → DraftState) (s : Setting) (routes : List (List ℕ)) (new : List R) (freshes : List Fresh) (n : ℕ) (r : R) (f : Fresh) → AreFreshOf draft s routes new freshes n
    → r ≡ slice_index_or new n r → n < length new → n < length freshes → IsFreshOf s routes (draft r) f → AreFreshOf draft s routes new (slice_set freshes n f) (n + 1)
fresh_next {R} draft s routes new freshes n r f all is within below fresh k e g h = at (cases_eq k n)
  where
    at : (k ≡ n) ⊎ (k ≡ n → ⊥) → IsFreshOf s routes (draft (slice_index_or new k e)) (slice_index_or (slice_set freshes n f) k g)
    at (inl same) =
        subst (λ (j : ℕ). IsFreshOf s routes (draft (slice_index_or new j e)) (slice_index_or (slice_set freshes n f) j g)) (sym same)
        (subst (λ (x : R). IsFreshOf s routes (draft x) (slice_index_or (slice_set freshes n f) n g)) (is ∙ get_or_default new n r e within)
        (subst (λ (y : Fresh). IsFreshOf s routes (draft r) y) (sym (get_or-set_same freshes n f g below)) fresh))
    at (inr other) =
        subst (λ (y : Fresh). IsFreshOf s routes (draft (slice_index_or new k e)) y) (sym (get_or-set_other freshes n k f g other)) (all k e g (omega (arith, h, other)))

-- what a row needs to be joined
pub record CanJoin (s : Setting) (v front : ℕ) (route : List ℕ) (old fresh : RowState) : Type 0 where
  pub has : HasFront s v front route old
  pub tail : IsTailOf s v front route fresh
  pub short : front + fresh.stops ≤ 1000

pub can_join : {R : Type 0} (draft : R → DraftState) (s : Setting) (routes : List (List ℕ)) (new : List R) (freshes : List Fresh) (n k v : ℕ) (r : R) (f : Fresh) (old : RowState) → AreFreshOf draft s routes new freshes n → k < n
    → r ≡ slice_index_or new k r → f ≡ slice_index_or freshes k f → v ≡ (draft r).vehicle → length (drafted routes (draft r)) ≤ 1000 → IsRowOf s v (route_at routes v) old
    → CanJoin s v f.front (drafted routes (draft r)) old f.row
can_join {R} draft s routes new freshes n k v r f old all h e g named short kept =
    let d = draft r in
    let this : IsFreshOf s routes d f =
    subst (λ (x : Fresh). IsFreshOf s routes d x) (sym g) (subst (λ (x : R). IsFreshOf s routes (draft x) (slice_index_or freshes k f)) (sym e) (all k r f h)) in
    let counted = this.tail.counted in
    let there : CanJoin s d.vehicle f.front (drafted routes d) old f.row = record {
      has = row_front s d.vehicle (route_at routes d.vehicle) (drafted routes d) old f.front (subst (λ (w : ℕ). IsRowOf s w (route_at routes w) old) named kept) this.common;
      tail = this.tail;
      short = omega (arith, counted, short);
    } in
    subst (λ (w : ℕ). CanJoin s w f.front (drafted routes d) old f.row) (sym named) there

-- the new route at a place, and those after it
pub new_next : {R : Type 0} (draft : R → DraftState) (routes : List (List ℕ)) (new : List R) (k v : ℕ) (r : R) → r ≡ slice_index_or new k r → k < length new → v ≡ (draft r).vehicle
    → routes_by draft routes (drop k new) ≡ (v, drafted routes (draft r)) ∷ routes_by draft routes (drop (k + 1) new)
new_next {R} draft routes new k v r e h named =
    ap (λ (rs : List R). routes_by draft routes rs) (next_of new k r e h)
    ∙ ap (λ (w : ℕ). let c : ℕ × List ℕ = (w, drafted routes (draft r)) in c ∷ routes_by draft routes (drop (k + 1) new)) (sym named)
