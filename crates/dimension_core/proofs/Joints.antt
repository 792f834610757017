-- Spans from the back of a route, and where they meet those from the front.
use Rattle.std.proofs.Common.{◌≡◌, ℕ, ◌+◌, ◌-◌, ◌<◌, ◌≤◌, ◌↔◌, max, min, refl, sym, subst, arith, List, [], ◌∷◌, ◌++◌, append_assoc, Option, Some, None}
use Rattle.std.proofs.Math.Logic.{∥∥₁_elim, ∥∥₁_map}
use Rattle.std.proofs.Props.{props}
use Rattle.callback_store.specs.Tables.{Table, entry}
use Rattle.dimension_core.specs.declared.range.Range.{Range}
use Rattle.dimension_core.specs.Cumuls.{Bounds, cap_of, range_of, IsCumul, IsWithin, IsSpan, GoOn, AreCumuls, Reaches, last_of}
use Rattle.dimension_core.specs.Onward.{IsOnward, IsBefore}
use Rattle.dimension_core.proofs.Reach.{last_of-push}

-- the cumuls before those of a range are a range
pub preceding_span : (t : Table) (d : Bounds) (v i j : ℕ) (r o : Range) → r.lo ≤ r.hi → entry t i j ≤ r.hi
    → o.lo ≡ max (r.lo - (entry t i j + d.slack_max)) (range_of d i).lo
    → o.hi ≡ min (min (r.hi - entry t i j) (range_of d i).hi) (cap_of d v)
    → o.lo ≤ o.hi → IsSpan (Some o) (IsBefore t d v i j r)
preceding_span t d v i j r o filled fits lo hi full = record {
  filled = full;
  inside = λ x w. let from = w.0 in let to = w.1 in record {
    cumul = record { low = omega arith; high = omega arith; capped = omega arith };
    next = (max r.lo (x + entry t i j), (omega arith, omega arith), omega arith, omega arith);
  };
  all = λ x p.
      let a = p.cumul.low in
      let b = p.cumul.high in
      let c = p.cumul.capped in
      let y = p.next.0 in
      let w = p.next.1 in
      let s = p.next.2 in
      let u = p.next.3 in
      (omega arith, omega arith);
}

pub preceding_none : (t : Table) (d : Bounds) (v i j lo hi : ℕ) (r : Range) → r.lo ≤ r.hi
    → lo ≡ max (r.lo - (entry t i j + d.slack_max)) (range_of d i).lo
    → hi ≡ min (min (r.hi - entry t i j) (range_of d i).hi) (cap_of d v)
    → hi < lo → IsSpan None (IsBefore t d v i j r)
preceding_none t d v i j lo hi r filled el eh out = record {
  filled = tt;
  inside = λ x w. absurd w;
  all = λ x p.
      let a = p.cumul.low in
      let b = p.cumul.high in
      let c = p.cumul.capped in
      let y = p.next.0 in
      let w = p.next.1 in
      let s = p.next.2 in
      let u = p.next.3 in
      absurd (omega arith);
}

pub preceding_far : (t : Table) (d : Bounds) (v i j : ℕ) (r : Range) → r.hi < entry t i j → IsSpan None (IsBefore t d v i j r)
preceding_far t d v i j r out = record {
  filled = tt;
  inside = λ x w. absurd w;
  all = λ x p. let w = p.next.1 in let s = p.next.2 in absurd (omega arith);
}

-- from where the way over one more node can be continued
pub onward_push : (t : Table) (d : Bounds) (v i j : ℕ) (js : List ℕ) (r : Range) (o : Option Range) → IsSpan (Some r) (IsOnward t d v j js)
    → IsSpan o (IsBefore t d v i j r) → IsSpan o (IsOnward t d v i (j ∷ js))
onward_push t d v i j js r o s n = record {
  filled = n.filled;
  inside = λ x w.
      let p = n.inside x w in
      let q = s.inside p.next.0 p.next.1 in
      record { cumul = p.cumul; on = (p.next.0 ∷ q.on.0, (record { cumul = q.cumul; slack = p.next.2; within = p.next.3 }, q.on.1)) };
  all = λ x p. n.all x (before x p);
}
  where
    next : (x : ℕ) (ys : List ℕ) → GoOn t d v i x (j ∷ js) ys → (y : ℕ) × IsWithin (Some r) y × (x + entry t i j ≤ y) × (y ≤ x + entry t i j + d.slack_max)
    next x [] g = absurd g
    next x (y ∷ ys) g = (y, s.all y (record { cumul = g.0.cumul; on = (ys, g.1) }), g.0.slack, g.0.within)

    before : (x : ℕ) → IsOnward t d v i (j ∷ js) x → IsBefore t d v i j r x
    before x p = record { cumul = p.cumul; next = next x p.on.0 p.on.1 }

pub onward_none : (t : Table) (d : Bounds) (v i j : ℕ) (js : List ℕ) → IsSpan None (IsOnward t d v j js) → IsSpan None (IsOnward t d v i (j ∷ js))
onward_none t d v i j js s = record { filled = tt; inside = λ x w. absurd w; all = λ x p. none x p.on.0 p.on.1 }
  where
    none : (x : ℕ) (ys : List ℕ) → GoOn t d v i x (j ∷ js) ys → ⊥
    none x [] g = g
    none x (y ∷ ys) g = s.all y (record { cumul = g.0.cumul; on = (ys, g.1) })

-- at the last node every cumul is good
pub onward_end : (t : Table) (d : Bounds) (v i : ℕ) (o : Option Range) → IsSpan o (IsCumul d v i) → IsSpan o (IsOnward t d v i [])
onward_end t d v i o s = record { filled = s.filled; inside = λ x w. record { cumul = s.inside x w; on = ([], tt) }; all = λ x p. s.all x p.cumul }

-- ways go on one after the other
go_append : (t : Table) (d : Bounds) (v i x : ℕ) (js ks ys zs : List ℕ) → GoOn t d v i x js ys → GoOn t d v (last_of i js) (last_of x ys) ks zs
    → GoOn t d v i x (js ++ ks) (ys ++ zs)
go_append t d v i x [] ks [] zs g h = h
go_append t d v i x (j ∷ js) ks (y ∷ ys) zs g h = (g.0, go_append t d v j y js ks ys zs g.1 h)
go_append t d v i x [] ks (y ∷ ys) zs g h = absurd g
go_append t d v i x (j ∷ js) ks [] zs g h = absurd g

go_split : (t : Table) (d : Bounds) (v i x : ℕ) (js ks zs : List ℕ) → GoOn t d v i x (js ++ ks) zs
    → (ys : List ℕ) × GoOn t d v i x js ys × ((ws : List ℕ) × GoOn t d v (last_of i js) (last_of x ys) ks ws)
go_split t d v i x [] ks zs g = ([], tt, (zs, g))
go_split t d v i x (j ∷ js) ks [] g = absurd g
go_split t d v i x (j ∷ js) ks (z ∷ zs) g = let r = go_split t d v j z js ks zs g.1 in (z ∷ r.0, (g.0, r.1), r.2)

go_last : (t : Table) (d : Bounds) (v i x : ℕ) (js : List ℕ) (k : ℕ) (zs : List ℕ) → GoOn t d v i x (js ++ k ∷ []) zs → IsCumul d v k (last_of x zs)
go_last t d v i x [] k [] g = absurd g
go_last t d v i x [] k (z ∷ []) g = g.0.cumul
go_last t d v i x [] k (z ∷ (w ∷ zs)) g = absurd g.1
go_last t d v i x (j ∷ js) k [] g = absurd g
go_last t d v i x (j ∷ js) k (z ∷ zs) g = go_last t d v j z js k zs g.1

le-prop : (m n : ℕ) → IsProp (m ≤ n)
le-prop m n = hlevel props

-- A way from two intervals that meet at a stop z: what can be reached there, and from where the rest can be travelled.
pub joint : (t : Table) (d : Bounds) (v : ℕ) (done : List ℕ) (z : ℕ) (rest : List ℕ) (f b : Range) → IsSpan (Some f) (Reaches t d v (done ++ z ∷ []))
    → IsSpan (Some b) (IsOnward t d v z rest) → (max f.lo b.lo ≤ min f.hi b.hi) ↔ ∥ ((cumuls : List ℕ) × AreCumuls t d v (done ++ (z ∷ rest)) cumuls) ∥₁
joint t d v done z rest f b s n = (
  λ h.
      let x : ℕ = max f.lo b.lo in
      ∥∥₁_map (s.inside x (omega arith, omega arith)) (λ reached. whole x reached (n.inside x (omega arith, omega arith))),
  λ p. ∥∥₁_elim p (le-prop (max f.lo b.lo) (min f.hi b.hi)) (λ q. both q.0 q.1),
)
  where
    whole : (x : ℕ) → (cumuls : List ℕ) × AreCumuls t d v (done ++ z ∷ []) cumuls × (last_of 0 cumuls ≡ x) → IsOnward t d v z rest x → (cumuls : List ℕ) × AreCumuls t d v (done ++ (z ∷ rest)) cumuls
    whole x ([], a, e) p = absurd a
    whole x (c ∷ cs, a, e) p =
        let on : GoOn t d v (last_of 0 (done ++ z ∷ [])) (last_of c cs) rest p.on.0 =
        subst (λ (i : ℕ). GoOn t d v i (last_of c cs) rest p.on.0) (sym (last_of-push 0 done z)) (subst (λ (y : ℕ). GoOn t d v z y rest p.on.0) (sym e) p.on.1) in
        let all = go_append t d v 0 c (done ++ z ∷ []) rest cs p.on.0 a.1 on in
        (c ∷ (cs ++ p.on.0), (a.0, subst (λ (js : List ℕ). GoOn t d v 0 c js (cs ++ p.on.0)) (append_assoc done (z ∷ []) rest) all))

    both : (cumuls : List ℕ) → AreCumuls t d v (done ++ (z ∷ rest)) cumuls → max f.lo b.lo ≤ min f.hi b.hi
    both [] a = absurd a
    both (c ∷ cs) a =
        let g = subst (λ (js : List ℕ). GoOn t d v 0 c js cs) (sym (append_assoc done (z ∷ []) rest)) a.1 in
        let r = go_split t d v 0 c (done ++ z ∷ []) rest cs g in
        let x : ℕ = last_of c r.0 in
        let here = s.all x ∣ (c ∷ r.0, (a.0, r.1), refl) ∣₁ in
        let on = subst (λ (i : ℕ). GoOn t d v i x rest r.2.0) (last_of-push 0 done z) r.2.1 in
        let there = n.all x (record { cumul = go_last t d v 0 c done z r.0 r.1; on = (r.2.0, on) }) in
        omega arith
