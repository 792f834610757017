use Rattle.std.proofs.Common.{◌≡◌, ◌∙◌, ℕ, ◌+◌, ◌-◌, ◌<◌, ◌≤◌, refl, sym, ap, subst, arith, List, [], ◌∷◌, ◌++◌, length, take, drop, reverse, slice_index, slice_index_or, append_assoc, take_all, Option, Some, None, MatchOption, Bool, true, false, ◌==◌, ◌↔◌, All, IsTrue}
use Rattle.std.proofs.lemmas.Bool.{eqb-true}
use Rattle.std.proofs.lemmas.List.{take_more, take-append-drop, get_or_append_left, get_or-append-add, get_or-reverse, length-append, length-reverse}
use Rattle.callback_store.specs.Tables.{Table, entry, table_at}
use Rattle.dimension_core.specs.declared.range.Range.{Range}
use Rattle.dimension_core.specs.Cumuls.{Bounds, IsInBounds, IsStep, IsWithin, IsSpan, Reaches, cap_of, last_of, range_of, table_of}
use Rattle.dimension_core.specs.Spans.{no_range}
use Rattle.route_parts.specs.declared.parts.Parts.{Parts}
use Rattle.route_parts.specs.Parts.{way_of, begun_of, route_of}
use Rattle.route_parts.specs.Given.{Laws}

-- what comes after the numbers of an interval, by the answer of a callback and what the dimension bounds, looked up before
pub after_by : (t : Table) (d : Bounds) (nodes : List Range) (slack cap way i j v : ℕ) (r : Range) (o : Option Range)
    → ((t : Table) (b : Bounds) (vehicle m n : ℕ) → way ≡ entry t m n → slice_index_or nodes j no_range ≡ range_of b n → slack ≡ b.slack_max → cap ≡ cap_of b vehicle
    → IsSpan o (λ y. (x : ℕ) × IsWithin (Some r) x × IsStep t b vehicle m x n y))
    → nodes ≡ d.ranges → slack ≡ d.slack_max → cap ≡ cap_of d v → way ≡ entry t i j → IsSpan o (λ y. (x : ℕ) × IsWithin (Some r) x × IsStep t d v i x j y)
after_by t d nodes slack cap way i j v r o span same most capped answer =
    span t d v i j answer (ap (λ (rs : List Range). slice_index_or rs j no_range) same) most capped

-- a node that a callback knows
pub asked_node : (n m i : ℕ) → n ≡ m → i < m → i < n
asked_node n m i e h = omega arith

-- a node's range is among those of the dimension
pub in_ranges : (i : ℕ) (xs ys : List Range) → xs ≡ ys → i < length ys → i < length xs
in_ranges i xs ys e h = subst (λ (zs : List Range). i < length zs) (sym e) h

-- the table of a callback, which was looked up by the name that the dimension has for it
pub looked_up : (t : Table) (ts : List Table) (d : Bounds) (id : ℕ) → t ≡ table_at ts id → id ≡ d.id → t ≡ table_of ts d
looked_up t ts d id e same = e ∙ ap (λ (n : ℕ). table_at ts n) same

pub home_as : (t u : Table) (d : Bounds) (v : ℕ) (route : List ℕ) (b : Bool) → t ≡ u → IsTrue b ↔ IsInBounds t d v route → IsTrue b ↔ IsInBounds u d v route
home_as t u d v route b e h = subst (λ (x : Table). IsTrue b ↔ IsInBounds x d v route) e h

-- the cumuls at a stop after some parts
pub arrived : (t : Table) (d : Bounds) (v : ℕ) (js route : List ℕ) (next : ℕ) (o : Option Range) → js ≡ route
    → IsSpan o (Reaches t d v (js ++ next ∷ [])) → IsSpan o (Reaches t d v (route ++ next ∷ []))
arrived t d v js route next o e s = subst (λ (xs : List ℕ). IsSpan o (Reaches t d v (xs ++ next ∷ []))) e s

-- a new route is what comes before its last part, and that part
pub in_parts : (p : Parts) → begun_of p ++ p.back.now ≡ route_of p
in_parts p =
    append_assoc p.front.now (way_of p.turned p.first.now ++ (p.second.now ++ p.third.now)) p.back.now
    ∙ ap (λ (xs : List ℕ). p.front.now ++ xs) (append_assoc (way_of p.turned p.first.now) (p.second.now ++ p.third.now) p.back.now
    ∙ ap (λ (xs : List ℕ). way_of p.turned p.first.now ++ xs) (append_assoc p.second.now p.third.now p.back.now))

pub all_in_parts : (P : ℕ → Type 0) (p : Parts) → All P (route_of p) → All P (begun_of p ++ p.back.now)
all_in_parts P p all = subst (λ (xs : List ℕ). All P xs) (sym (in_parts p)) all

-- the cumuls at the last of some parts, and that customer, by another order of the parts
pub middle_found : (t : Table) (d : Bounds) (v : ℕ) (js route : List ℕ) (o : Option (Range × ℕ)) → js ≡ route
    → MatchOption o (IsSpan None (Reaches t d v js)) (λ r. IsSpan (Some r.0) (Reaches t d v js) × (r.1 ≡ last_of 0 js))
    → MatchOption o (IsSpan None (Reaches t d v route)) (λ r. IsSpan (Some r.0) (Reaches t d v route) × (r.1 ≡ last_of 0 route))
middle_found t d v js route o e m =
    subst (λ (xs : List ℕ). MatchOption o (IsSpan None (Reaches t d v xs)) (λ r. IsSpan (Some r.0) (Reaches t d v xs) × (r.1 ≡ last_of 0 xs))) e m

module _ (law : Laws) where
  pub last_push : (n : ℕ) (ms : List ℕ) (m : ℕ) → last_of n (ms ++ m ∷ []) ≡ m
  last_push n [] m = refl
  last_push n (k ∷ ms) m = last_push k ms m

  push_take : (done nodes : List ℕ) (k : ℕ) → k < length nodes → done ++ take (k + 1) nodes ≡ (done ++ take k nodes) ++ slice_index nodes k ∷ []
  push_take done nodes k h =
      ap (λ (ys : List ℕ). done ++ ys) (take_more nodes k 0 h) ∙ sym (append_assoc done (take k nodes) (slice_index nodes k ∷ []))

  -- the cumuls after one more of some nodes, which come after others
  pub carry_more : (t : Table) (d : Bounds) (v : ℕ) (done nodes : List ℕ) (k from : ℕ) (r : Range) (o : Option Range) → k < length nodes
      → IsSpan (Some r) (Reaches t d v (done ++ take k nodes)) → from ≡ last_of 0 (done ++ take k nodes)
      → IsSpan o (λ y. (x : ℕ) × IsWithin (Some r) x × IsStep t d v from x (slice_index nodes k) y) → IsSpan o (Reaches t d v (done ++ take (k + 1) nodes))
  carry_more t d v done nodes k from r o h s last n =
      let m = subst (λ (i : ℕ). IsSpan o (λ y. (x : ℕ) × IsWithin (Some r) x × IsStep t d v i x (slice_index nodes k) y)) last n in
      subst (λ (js : List ℕ). IsSpan o (Reaches t d v js)) (sym (push_take done nodes k h)) (law.spans.push t d v (done ++ take k nodes) (slice_index nodes k) r o s m)

  pub carry_last : (done nodes : List ℕ) (k : ℕ) → k < length nodes → slice_index nodes k ≡ last_of 0 (done ++ take (k + 1) nodes)
  carry_last done nodes k h = sym (ap (last_of 0) (push_take done nodes k h) ∙ last_push 0 (done ++ take k nodes) (slice_index nodes k))

  -- where there is none at the first of them, there is none at the last
  pub carry_none : (t : Table) (d : Bounds) (v : ℕ) (done nodes : List ℕ) (k : ℕ) → IsSpan None (Reaches t d v (done ++ take k nodes)) → IsSpan None (Reaches t d v (done ++ nodes))
  carry_none t d v done nodes k s =
      let e : (done ++ take k nodes) ++ drop k nodes ≡ done ++ nodes =
      append_assoc done (take k nodes) (drop k nodes) ∙ ap (λ (ys : List ℕ). done ++ ys) (take-append-drop k nodes) in
      subst (λ (js : List ℕ). IsSpan None (Reaches t d v js)) e (law.spans.none t d v (done ++ take k nodes) (drop k nodes) s)

  -- there are no cumuls after all parts where there are none after the first
  pub middle_none : (t : Table) (d : Bounds) (v : ℕ) (js ks route : List ℕ) → js ++ ks ≡ route → IsSpan None (Reaches t d v js)
      → IsSpan None (Reaches t d v route)
  middle_none t d v js ks route e s = subst (λ (xs : List ℕ). IsSpan None (Reaches t d v xs)) e (law.spans.none t d v js ks s)

  -- the cumuls at the next stop, by those after the last part
  pub stop_found : (t : Table) (d : Bounds) (v : ℕ) (js route : List ℕ) (from next : ℕ) (r : Range) (o : Option Range) → js ≡ route
      → IsSpan (Some r) (Reaches t d v js) → from ≡ last_of 0 js
      → IsSpan o (λ y. (x : ℕ) × IsWithin (Some r) x × IsStep t d v from x next y) → IsSpan o (Reaches t d v (route ++ next ∷ []))
  stop_found t d v js route from next r o e s last n =
      let m = subst (λ (i : ℕ). IsSpan o (λ y. (x : ℕ) × IsWithin (Some r) x × IsStep t d v i x next y)) last n in
      subst (λ (xs : List ℕ). IsSpan o (Reaches t d v (xs ++ next ∷ []))) e (law.spans.push t d v js next r o s m)

  -- the test whether a route is empty
  pub empty_from : (r : List ℕ) (b : Bool) → b ≡ (length r == 0) → b ≡ true → r ≡ []
  empty_from [] b e t = refl
  empty_from (x ∷ r) b e t = let n : length (x ∷ r) ≡ 0 = eqb-true (length (x ∷ r)) 0 (sym e ∙ t) in absurd (omega arith)

  pub some_from : (r : List ℕ) (b : Bool) → b ≡ (length r == 0) → b ≡ false → 0 < length r
  some_from [] b e f = let both : false ≡ true = sym f ∙ e in absurd cc
  some_from (x ∷ r) b e f = omega arith

  pub append_nil : (xs : List ℕ) → xs ++ [] ≡ xs
  append_nil [] = refl
  append_nil (x ∷ xs) = ap (λ (ys : List ℕ). x ∷ ys) (append_nil xs)

  -- at the end of the nodes
  pub carry_end : (done nodes : List ℕ) (k : ℕ) → length nodes ≤ k → (t : Table) (d : Bounds) (v from : ℕ) (r : Range)
      → IsSpan (Some r) (Reaches t d v (done ++ take k nodes)) → from ≡ last_of 0 (done ++ take k nodes)
      → IsSpan (Some r) (Reaches t d v (done ++ nodes)) × (from ≡ last_of 0 (done ++ nodes))
  carry_end done nodes k h t d v from r s e =
      let all : take k nodes ≡ nodes = take_all k nodes h in (
        subst (λ (ys : List ℕ). IsSpan (Some r) (Reaches t d v (done ++ ys))) all s,
        subst (λ (ys : List ℕ). from ≡ last_of 0 (done ++ ys)) all e,
      )

  -- what holds of each node of a way holds of those of its parts
  pub all_left : (P : ℕ → Type 0) (xs ys : List ℕ) → All P (xs ++ ys) → All P xs
  all_left P xs ys all k d h =
      let long : length (xs ++ ys) ≡ length xs + length ys = length-append xs ys in
      subst P (get_or_append_left xs ys d k h) (all k d (omega arith))

  pub all_right : (P : ℕ → Type 0) (xs ys : List ℕ) → All P (xs ++ ys) → All P ys
  all_right P xs ys all k d h =
      let long : length (xs ++ ys) ≡ length xs + length ys = length-append xs ys in
      subst P (get_or-append-add xs ys k d) (all (length xs + k) d (omega arith))

  -- and of a way driven back
  pub all_back : (P : ℕ → Type 0) (xs : List ℕ) → All P (reverse xs) → All P xs
  all_back P xs all k d h =
      let long : length (reverse xs) ≡ length xs = length-reverse xs in
      let e : length xs - 1 - (length xs - 1 - k) ≡ k = omega arith in
      subst P (get_or-reverse xs (length xs - 1 - k) d (omega arith) ∙ ap (λ (n : ℕ). slice_index_or xs n d) e) (all (length xs - 1 - k) d (omega arith))

  pub all_way : (P : ℕ → Type 0) (b : Bool) (xs : List ℕ) → All P (way_of b xs) → All P xs
  all_way P true xs all = all_back P xs all
  all_way P false xs all = all
