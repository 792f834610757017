-- Where the cumuls from the front and those from the back meet.
use Rattle.std.proofs.Common.{◌≡◌, ◌∙◌, ℕ, ◌<◌, ◌≤◌, ◌⊎◌, ◌↔◌, max, min, inl, inr, sym, ap, subst, arith, List, [], ◌∷◌, ◌++◌, append_assoc, length, Option, Some, None, slice_index_or, IsTrue, false}
use Rattle.std.proofs.Math.Logic.{∥∥₁_elim, ∥∥₁_map}
use Rattle.std.proofs.Props.{props}
use Rattle.std.proofs.lemmas.Bool.{false≢true}
use Rattle.std.proofs.lemmas.List.{get_or_default}
use Rattle.callback_store.specs.Tables.{Table}
use Rattle.dimension_core.specs.declared.range.Range.{Range}
use Rattle.dimension_core.specs.Cumuls.{Bounds, IsSpan, IsInBounds, GoOn, AreCumuls, Reaches, table_of}
use Rattle.dimension_core.specs.Onward.{IsOnward}
use Rattle.dimension_core.specs.Setting.{Setting, dimension_at, no_bounds}
use Rattle.dimension_core.specs.Feasible.{FitsIn}
use Rattle.route_parts.specs.Kept.{GoesOn}
use Rattle.route_parts.specs.Given.{Laws}

-- a way over some nodes and then others goes on from a cumul at the first of these
through : (t : Table) (d : Bounds) (v i x : ℕ) (ms : List ℕ) (z : ℕ) (rest ys : List ℕ) → GoOn t d v i x (ms ++ (z ∷ rest)) ys → (y : ℕ) × IsOnward t d v z rest y
through t d v i x [] z rest [] g = absurd g
through t d v i x [] z rest (y ∷ ys) g = (y, record { cumul = g.0.cumul; on = (ys, g.1) })
through t d v i x (m ∷ ms) z rest [] g = absurd g
through t d v i x (m ∷ ms) z rest (y ∷ ys) g = through t d v m y ms z rest ys g.1

through_all : (t : Table) (d : Bounds) (v : ℕ) (js : List ℕ) (z : ℕ) (rest cumuls : List ℕ) → AreCumuls t d v (js ++ (z ∷ rest)) cumuls → (y : ℕ) × IsOnward t d v z rest y
through_all t d v js z rest [] a = absurd a
through_all t d v js z rest (x ∷ xs) a = through t d v 0 x js z rest xs a.1

-- the first of some last customers, or the depot
pub next_known : (P : ℕ → Type 0) (back : List ℕ) (next : ℕ) (rest : List ℕ) → back ++ 0 ∷ [] ≡ next ∷ rest → P 0 → ((k : ℕ) → k < length back → P (slice_index_or back k 0)) → P next
next_known P [] next rest e p all = let same : 0 ≡ next = cc in subst P same p
next_known P (b ∷ bs) next rest e p all = let same : b ≡ next = cc in subst P same (all 0 (omega arith))

-- a route that is not empty is in bounds exactly where there are cumuls
in_bounds : (t : Table) (d : Bounds) (v : ℕ) (route : List ℕ) → 0 < length route → ∥ ((cumuls : List ℕ) × AreCumuls t d v (route ++ 0 ∷ []) cumuls) ∥₁ ↔ IsInBounds t d v route
in_bounds t d v route some = (λ p. ∥∥₁_map p (λ a. inr a), λ p. ∥∥₁_map p (λ a. one a))
  where
    one : (route ≡ []) ⊎ ((cumuls : List ℕ) × AreCumuls t d v (route ++ 0 ∷ []) cumuls) → (cumuls : List ℕ) × AreCumuls t d v (route ++ 0 ∷ []) cumuls
    one (inl e) = let none : length route ≡ 0 = ap length e in absurd (omega arith)
    one (inr a) = a

module _ (law : Laws) where
  -- there are no cumuls after the front
  pub no_ahead : (t : Table) (d : Bounds) (v : ℕ) (front others : List ℕ) → 0 < length (front ++ others) → IsSpan None (Reaches t d v front) → IsInBounds t d v (front ++ others) → ⊥
  no_ahead t d v front others some span inside =
      let all = law.spans.none t d v front (others ++ 0 ∷ []) span in
      let whole = subst (λ (js : List ℕ). IsSpan None (Reaches t d v js)) (sym (append_assoc front others (0 ∷ []))) all in
      let is = (law.spans.bounds t d v (front ++ others) None some whole).1 inside in
      cc

  -- then it is not
  pub no_way : (t : Table) (d : Bounds) (v : ℕ) (js ks route : List ℕ) → js ++ ks ≡ route → 0 < length route → IsSpan None (Reaches t d v js) → IsTrue false ↔ IsInBounds t d v route
  no_way t d v js ks route e some span = (
    λ never. absurd (false≢true never),
    λ inside. absurd (no_ahead t d v js ks (subst (λ (xs : List ℕ). 0 < length xs) (sym e) some) span (subst (λ (xs : List ℕ). IsInBounds t d v xs) (sym e) inside)),
  )

  -- nor before the back
  pub no_behind : (t : Table) (d : Bounds) (v : ℕ) (js back route : List ℕ) → js ++ back ≡ route → 0 < length route → IsSpan None (GoesOn t d v (back ++ 0 ∷ [])) → IsInBounds t d v route → ⊥
  no_behind t d v js back route e some span inside =
      let p = (in_bounds t d v route some).1 inside in
      let whole : route ++ 0 ∷ [] ≡ js ++ (back ++ 0 ∷ []) = ap (λ (xs : List ℕ). xs ++ 0 ∷ []) (sym e) ∙ append_assoc js back (0 ∷ []) in
      ∥∥₁_elim p (hlevel props) (λ q. none back span q.0 (subst (λ (xs : List ℕ). AreCumuls t d v xs q.0) whole q.1))
    where
      none : (back : List ℕ) → IsSpan None (GoesOn t d v (back ++ 0 ∷ [])) → (cumuls : List ℕ) → AreCumuls t d v (js ++ (back ++ 0 ∷ [])) cumuls → ⊥
      none [] span cumuls a = let y = through_all t d v js 0 [] cumuls a in span.all y.0 y.1
      none (b ∷ bs) span cumuls a = let y = through_all t d v js b (bs ++ 0 ∷ []) cumuls a in span.all y.0 y.1

  -- nor at the next stop
  pub no_arrival : (t : Table) (d : Bounds) (v : ℕ) (js back route : List ℕ) (next : ℕ) (rest : List ℕ) → js ++ back ≡ route → back ++ 0 ∷ [] ≡ next ∷ rest → 0 < length route
      → IsSpan None (Reaches t d v (js ++ next ∷ [])) → IsInBounds t d v route → ⊥
  no_arrival t d v js back route next rest e tail some span inside =
      let all = law.spans.none t d v (js ++ next ∷ []) rest span in
      let whole : (js ++ next ∷ []) ++ rest ≡ route ++ 0 ∷ [] =
      append_assoc js (next ∷ []) rest ∙ ap (λ (xs : List ℕ). js ++ xs) (sym tail) ∙ sym (append_assoc js back (0 ∷ [])) ∙ ap (λ (xs : List ℕ). xs ++ 0 ∷ []) e in
      let is = (law.spans.bounds t d v route None some (subst (λ (xs : List ℕ). IsSpan None (Reaches t d v xs)) whole all)).1 inside in
      cc

  -- both meet exactly where the route is in bounds
  pub meeting : (t : Table) (d : Bounds) (v : ℕ) (js back route : List ℕ) (next : ℕ) (rest : List ℕ) (f b : Range) → js ++ back ≡ route → back ++ 0 ∷ [] ≡ next ∷ rest → 0 < length route
      → IsSpan (Some f) (Reaches t d v (js ++ next ∷ [])) → IsSpan (Some b) (GoesOn t d v (back ++ 0 ∷ [])) → (max f.lo b.lo ≤ min f.hi b.hi) ↔ IsInBounds t d v route
  meeting t d v js back route next rest f b e tail some front behind =
      let on = subst (λ (xs : List ℕ). IsSpan (Some b) (GoesOn t d v xs)) tail behind in
      let whole : js ++ (next ∷ rest) ≡ route ++ 0 ∷ [] = ap (λ (xs : List ℕ). js ++ xs) (sym tail) ∙ sym (append_assoc js back (0 ∷ [])) ∙ ap (λ (xs : List ℕ). xs ++ 0 ∷ []) e in
      let met = subst (λ (xs : List ℕ). (max f.lo b.lo ≤ min f.hi b.hi) ↔ ∥ ((cumuls : List ℕ) × AreCumuls t d v xs cumuls) ∥₁) whole (law.meet.joint t d v js next rest f b front on) in
      let within = in_bounds t d v route some in
      (λ h. within.0 (met.0 h), λ inside. met.1 (within.1 inside))

-- the cumuls that a lookup found
pub span_as : (o p : Option Range) (P : ℕ → Type 0) → o ≡ p → IsSpan p P → IsSpan o P
span_as o p P e s = subst (λ (x : Option Range). IsSpan x P) (sym e) s

-- one dimension of a setting
pub fits_by_meeting : (s : Setting) (k v : ℕ) (route : List ℕ) (ts : List Table) (ds : List Bounds) (d : Bounds) → ts ≡ s.tables → ds ≡ s.dimensions → k < length ds → d ≡ slice_index_or ds k d
    → IsInBounds (table_of ts d) d v route ↔ FitsIn s k v route
fits_by_meeting s k v route ts ds d et ed h e =
    let same : d ≡ dimension_at s k = e ∙ get_or_default ds k d no_bounds h ∙ ap (λ (xs : List Bounds). slice_index_or xs k no_bounds) ed in (
      λ p. subst (λ (x : Bounds). IsInBounds (table_of s.tables x) x v route) same (subst (λ (xs : List Table). IsInBounds (table_of xs d) d v route) et p),
      λ p. subst (λ (xs : List Table). IsInBounds (table_of xs d) d v route) (sym et) (subst (λ (x : Bounds). IsInBounds (table_of s.tables x) x v route) (sym same) p),
    )
