use Rattle.std.proofs.Common.{◌≡◌, ℕ, suc, ◌+◌, ◌-◌, ◌<◌, ◌≤◌, ◌==◌, ◌∙◌, sym, ap, subst, refl, arith, Bool, true, false, List, [], ◌∷◌, ◌++◌, length, take, drop, slice_index, slice_index_or, is_some, IsTrue, ◌↔◌, ◌⊎◌, inl, inr, Option, Some, None}
use Rattle.std.specs.Bool.{OnTrue}
use Rattle.std.proofs.Math.Logic.{∥∥₁_elim, ∥∥₁_map}
use Rattle.std.proofs.Props.{props}
use Rattle.std.proofs.lemmas.Bool.{eqb-true}
use Rattle.std.proofs.lemmas.List.{take_more, take_all, take-append-drop}
use Rattle.callback_store.specs.declared.meter.Meter.{Meter}
use Rattle.callback_store.specs.Meter.{AsksAtMost, asks_wider}
use Rattle.callback_store.specs.Tables.{Table}
use Rattle.dimension_core.specs.declared.range.Range.{Range}
use Rattle.dimension_core.specs.Cumuls.{Bounds, IsCumul, IsStart, IsStep, IsWithin, IsSpan, GoOn, AreCumuls, Reaches, last_of, IsInBounds, IsEarly, route_asks}

pub on_true : (b : Bool) (P : Type 0) → (b ≡ true → P) → OnTrue b P
on_true false P p = tt
on_true true P p = p refl

-- a route that is not empty is asked for each customer and for the return
pub asks_some : (route : List ℕ) → 0 < length route → route_asks route ≡ length route + 1
asks_some [] h = absurd (omega arith)
asks_some (c ∷ cs) h = refl

pub some_node : (route : List ℕ) → false ≡ (length route == 0) → 0 < length route
some_node [] e = absurd cc
some_node (c ∷ cs) e = omega arith

pub no_node : (route : List ℕ) → true ≡ (length route == 0) → route ≡ []
no_node [] e = refl
no_node (c ∷ cs) e = let h = eqb-true (length (c ∷ cs)) 0 (sym e) in absurd (omega arith)

pub before_end : (n : ℕ) → 0 < n → n - 1 < n
before_end n h = omega arith

pub asks_fewer : (a b : Meter) (n m : ℕ) → AsksAtMost a b n → m ≡ n + 1 → AsksAtMost a b m
asks_fewer a b n m p e = asks_wider a b 0 n 0 m p (omega arith) (omega arith)

pub last_of-push : (n : ℕ) (ms : List ℕ) (m : ℕ) → last_of n (ms ++ m ∷ []) ≡ m
last_of-push n [] m = refl
last_of-push n (k ∷ ms) m = last_of-push k ms m

-- cumuls go on by one more
go_push : (t : Table) (d : Bounds) (v i x : ℕ) (js ys : List ℕ) (k y : ℕ) → GoOn t d v i x js ys
    → IsStep t d v (last_of i js) (last_of x ys) k y → GoOn t d v i x (js ++ k ∷ []) (ys ++ y ∷ [])
go_push t d v i x [] [] k y g s = (s, tt)
go_push t d v i x (j ∷ js) (z ∷ ys) k y g s = (g.0, go_push t d v j z js ys k y g.1 s)
go_push t d v i x [] (z ∷ ys) k y g s = absurd g
go_push t d v i x (j ∷ js) [] k y g s = absurd g

-- and without the last one they are cumuls too
go_pop : (t : Table) (d : Bounds) (v i x : ℕ) (js : List ℕ) (k : ℕ) (zs : List ℕ) → GoOn t d v i x (js ++ k ∷ []) zs
    → (ys : List ℕ) × GoOn t d v i x js ys × IsStep t d v (last_of i js) (last_of x ys) k (last_of x zs)
go_pop t d v i x [] k [] g = absurd g
go_pop t d v i x [] k (z ∷ []) g = ([], tt, g.0)
go_pop t d v i x [] k (z ∷ (w ∷ zs)) g = absurd g.1
go_pop t d v i x (j ∷ js) k [] g = absurd g
go_pop t d v i x (j ∷ js) k (z ∷ zs) g = let r = go_pop t d v j z js k zs g.1 in (z ∷ r.0, (g.0, r.1), r.2)

-- and for the first nodes alone
pub go_front : (t : Table) (d : Bounds) (v i x : ℕ) (js ks zs : List ℕ) → GoOn t d v i x (js ++ ks) zs → (ys : List ℕ) × GoOn t d v i x js ys
go_front t d v i x [] ks zs g = ([], tt)
go_front t d v i x (j ∷ js) ks [] g = absurd g
go_front t d v i x (j ∷ js) ks (z ∷ zs) g = let r = go_front t d v j z js ks zs g.1 in (z ∷ r.0, (g.0, r.1))

-- a number is in an interval in one way
pub IsWithin-prop : (o : Option Range) (x : ℕ) → IsProp (IsWithin o x)
IsWithin-prop None x = hlevel props
IsWithin-prop (Some r) x = hlevel props

reach_push : (t : Table) (d : Bounds) (v : ℕ) (js : List ℕ) (x k y : ℕ) → Reaches t d v js x → IsStep t d v (last_of 0 js) x k y → Reaches t d v (js ++ k ∷ []) y
reach_push t d v js x k y reached s = ∥∥₁_map reached push
  where
    push : (cumuls : List ℕ) × AreCumuls t d v js cumuls × (last_of 0 cumuls ≡ x)
        → (cumuls : List ℕ) × AreCumuls t d v (js ++ k ∷ []) cumuls × (last_of 0 cumuls ≡ y)
    push ([], a, e) = absurd a
    push (c ∷ cs, a, e) =
        let step : IsStep t d v (last_of 0 js) (last_of c cs) k y = subst (λ (n : ℕ). IsStep t d v (last_of 0 js) n k y) (sym e) s in
        (c ∷ (cs ++ y ∷ []), (a.0, go_push t d v 0 c js cs k y a.1 step), last_of-push c cs y)

-- a fact with at most one proof, which follows from each cumul before a reached one
reach_pop : (t : Table) (d : Bounds) (v : ℕ) (js : List ℕ) (k y : ℕ) (Q : Type 0) → IsProp Q → Reaches t d v (js ++ k ∷ []) y
    → ((x : ℕ) → Reaches t d v js x → IsStep t d v (last_of 0 js) x k y → Q) → Q
reach_pop t d v js k y Q alone reached next = ∥∥₁_elim reached alone pop
  where
    pop : (cumuls : List ℕ) × AreCumuls t d v (js ++ k ∷ []) cumuls × (last_of 0 cumuls ≡ y) → Q
    pop ([], a, e) = absurd a
    pop (c ∷ cs, a, e) =
        let r = go_pop t d v 0 c js k cs a.1 in
        next (last_of c r.0) ∣ (c ∷ r.0, (a.0, r.1), refl) ∣₁ (subst (λ (n : ℕ). IsStep t d v (last_of 0 js) (last_of c r.0) k n) e r.2)

reach_front : (t : Table) (d : Bounds) (v : ℕ) (js ks : List ℕ) (y : ℕ) (Q : Type 0) → IsProp Q → Reaches t d v (js ++ ks) y → ((x : ℕ) → Reaches t d v js x → Q) → Q
reach_front t d v js ks y Q alone reached next = ∥∥₁_elim reached alone front
  where
    front : (cumuls : List ℕ) × AreCumuls t d v (js ++ ks) cumuls × (last_of 0 cumuls ≡ y) → Q
    front ([], a, e) = absurd a
    front (c ∷ cs, a, e) =
        let r = go_front t d v 0 c js ks cs a.1 in next (last_of c r.0) ∣ (c ∷ r.0, (a.0, r.1), refl) ∣₁

IsStart-prop : (d : Bounds) (v x : ℕ) → IsProp (IsStart d v x)
IsStart-prop d v x = hlevel props

reach_start : (t : Table) (d : Bounds) (v x : ℕ) → Reaches t d v [] x → IsStart d v x
reach_start t d v x reached = ∥∥₁_elim reached (IsStart-prop d v x) start
  where
    start : (cumuls : List ℕ) × AreCumuls t d v [] cumuls × (last_of 0 cumuls ≡ x) → IsStart d v x
    start ([], a, e) = absurd a
    start (c ∷ [], a, e) = subst (λ (n : ℕ). IsStart d v n) e a.0
    start (c ∷ (w ∷ cs), a, e) = absurd a.1

-- the cumuls at the depot
pub span_start : (t : Table) (d : Bounds) (v : ℕ) (o : Option Range) → IsSpan o (IsStart d v) → IsSpan o (Reaches t d v [])
span_start t d v o s = record {
  filled = s.filled;
  inside = λ x w. ∣ (x ∷ [], (s.inside x w, tt), refl) ∣₁;
  all = λ x p. s.all x (reach_start t d v x p);
}

-- the cumuls at one more node
pub span_push : (t : Table) (d : Bounds) (v : ℕ) (js : List ℕ) (k : ℕ) (r : Range) (o : Option Range) → IsSpan (Some r) (Reaches t d v js)
    → IsSpan o (λ y. (x : ℕ) × IsWithin (Some r) x × IsStep t d v (last_of 0 js) x k y) → IsSpan o (Reaches t d v (js ++ k ∷ []))
span_push t d v js k r o s n = record {
  filled = n.filled;
  inside = λ y w. let p = n.inside y w in reach_push t d v js p.0 k y (s.inside p.0 p.1) p.2;
  all = λ y p. reach_pop t d v js k y (IsWithin o y) (IsWithin-prop o y) p (λ x reached step. n.all y (x, s.all x reached, step));
}

-- where there is none at a node, there is none at a later one
pub span_none : (t : Table) (d : Bounds) (v : ℕ) (js ks : List ℕ) → IsSpan None (Reaches t d v js) → IsSpan None (Reaches t d v (js ++ ks))
span_none t d v js ks s = record {
  filled = tt;
  inside = λ y w. absurd w;
  all = λ y p. reach_front t d v js ks y ⊥ (IsWithin-prop None y) p (λ x reached. s.all x reached);
}

last_of-index_or : (n : ℕ) (ms : List ℕ) (d : ℕ) → 0 < length ms → last_of n ms ≡ slice_index_or ms (length ms - 1) d
last_of-index_or n [] d h = absurd (omega arith)
last_of-index_or n (m ∷ []) d h = refl
last_of-index_or n (m ∷ (k ∷ ms)) d h =
    let e : length (m ∷ (k ∷ ms)) - 1 ≡ suc (length (k ∷ ms) - 1) = omega arith in
    last_of-index_or m (k ∷ ms) d (omega arith) ∙ ap (λ (i : ℕ). slice_index_or (m ∷ (k ∷ ms)) i d) (sym e)

-- the last node is that at the last place
pub last_of-index : (ms : List ℕ) (n : ℕ) → 0 < length ms → n ≡ slice_index ms (length ms - 1) → n ≡ last_of 0 ms
last_of-index ms n h e = e ∙ sym (last_of-index_or 0 ms 0 h)

-- a route with customers has cumuls exactly where there is an interval at its end
pub bounds_found : (t : Table) (d : Bounds) (v : ℕ) (route : List ℕ) (o : Option Range) → 0 < length route
    → IsSpan o (Reaches t d v (route ++ 0 ∷ [])) → IsTrue (is_some o) ↔ IsInBounds t d v route
bounds_found t d v route None h s = (
  λ p. cc,
  λ b. absurd (∥∥₁_elim b (IsWithin-prop None 0) none),
)
  where
    none : (route ≡ []) ⊎ ((cumuls : List ℕ) × AreCumuls t d v (route ++ 0 ∷ []) cumuls) → ⊥
    none (inl e) = omega (arith, ap length e)
    none (inr q) = s.all (last_of 0 q.0) ∣ (q.0, q.1, refl) ∣₁
bounds_found t d v route (Some r) h s =
    (λ p. ∥∥₁_map (s.inside r.lo (omega arith, s.filled)) (λ q. inr (q.0, q.1)), λ b. refl)

-- the cumuls at one more node of a list
pub span_more : (t : Table) (d : Bounds) (v : ℕ) (nodes : List ℕ) (k from node : ℕ) (r : Range) (o : Option Range) → k < length nodes
    → IsSpan (Some r) (Reaches t d v (take k nodes)) → from ≡ last_of 0 (take k nodes) → node ≡ slice_index nodes k
    → IsSpan o (λ y. (x : ℕ) × IsWithin (Some r) x × IsStep t d v from x node y) → IsSpan o (Reaches t d v (take (k + 1) nodes))
span_more t d v nodes k from node r o h s last here n =
    let e : take (k + 1) nodes ≡ take k nodes ++ node ∷ [] = rw here (take_more nodes k 0 h) in
    let m = subst (λ (i : ℕ). IsSpan o (λ y. (x : ℕ) × IsWithin (Some r) x × IsStep t d v i x node y)) last n in
    subst (λ (js : List ℕ). IsSpan o (Reaches t d v js)) (sym e) (span_push t d v (take k nodes) node r o s m)

-- where there is none at the first nodes of a list, there is none at its end
pub span_rest : (t : Table) (d : Bounds) (v : ℕ) (nodes : List ℕ) (k : ℕ) → IsSpan None (Reaches t d v (take k nodes)) → IsSpan None (Reaches t d v nodes)
span_rest t d v nodes k s =
    subst (λ (js : List ℕ). IsSpan None (Reaches t d v js)) (take-append-drop k nodes) (span_none t d v (take k nodes) (drop k nodes) s)

-- the node at a place is the last of the nodes up to it
pub last_of-push_at : (nodes : List ℕ) (k : ℕ) → k < length nodes → slice_index nodes k ≡ last_of 0 (take (k + 1) nodes)
last_of-push_at nodes k h = sym (ap (last_of 0) (take_more nodes k 0 h) ∙ last_of-push 0 (take k nodes) (slice_index nodes k))

-- the least last cumul is the interval's first number
pub span_early : (t : Table) (d : Bounds) (v : ℕ) (js : List ℕ) (r : Range) → IsSpan (Some r) (Reaches t d v js) → IsEarly t d v js r.lo
span_early t d v js r s = record { reached = s.inside r.lo (omega arith, s.filled); least = λ z p. (s.all z p).0 }

-- the cumuls at the end of a list
pub span_whole : (t : Table) (d : Bounds) (v : ℕ) (nodes : List ℕ) (k : ℕ) (o : Option Range) → length nodes ≤ k
    → IsSpan o (Reaches t d v (take k nodes)) → IsSpan o (Reaches t d v nodes)
span_whole t d v nodes k o h s = subst (λ (js : List ℕ). IsSpan o (Reaches t d v js)) (take_all k nodes h) s

-- the last of some cumuls is one at the last node
go_last : (t : Table) (d : Bounds) (v i x : ℕ) (js ys : List ℕ) → GoOn t d v i x js ys → IsCumul d v i x → IsCumul d v (last_of i js) (last_of x ys)
go_last t d v i x [] [] g c = c
go_last t d v i x (j ∷ js) (y ∷ ys) g c = go_last t d v j y js ys g.1 g.0.cumul
go_last t d v i x [] (y ∷ ys) g c = absurd g
go_last t d v i x (j ∷ js) [] g c = absurd g

IsCumul-prop : (d : Bounds) (v i x : ℕ) → IsProp (IsCumul d v i x)
IsCumul-prop d v i x = hlevel props

reach_cumul : (t : Table) (d : Bounds) (v : ℕ) (nodes : List ℕ) (y : ℕ) → Reaches t d v nodes y → IsCumul d v (last_of 0 nodes) y
reach_cumul t d v nodes y reached = ∥∥₁_elim reached (IsCumul-prop d v (last_of 0 nodes) y) last
  where
    last : (cumuls : List ℕ) × AreCumuls t d v nodes cumuls × (last_of 0 cumuls ≡ y) → IsCumul d v (last_of 0 nodes) y
    last ([], a, e) = absurd a
    last (c ∷ cs, a, e) = subst (λ (n : ℕ). IsCumul d v (last_of 0 nodes) n) e (go_last t d v 0 c nodes cs a.1 a.0.cumul)

-- so is the interval's last number
pub span_cumul : (t : Table) (d : Bounds) (v : ℕ) (js : List ℕ) (r : Range) → IsSpan (Some r) (Reaches t d v js) → IsCumul d v (last_of 0 js) r.hi
span_cumul t d v js r s = reach_cumul t d v js r.hi (s.inside r.hi (s.filled, omega arith))
