use Rattle.std.proofs.Common.{◌≡◌, ◌∙◌, ℕ, ◌+◌, ◌-◌, ◌<◌, ◌≤◌, sym, ap, subst, arith, List, [], ◌∷◌, ◌++◌, length, take, drop, slice_index, length-drop, get_or-drop}
use Rattle.std.proofs.lemmas.List.{append_assoc, length-append, length-take-le, get_or-take}
use Rattle.std.proofs.Math.Seq.{take-append_seam, take-length, drop-append_seam}
use Rattle.callback_store.specs.Tables.{Table}
use Rattle.gathered_ways.specs.Sides.{stops_of_both}
use Rattle.way_costs.specs.Ways.{hop, AreEdges}

-- the stops of two vehicles, cut at the depot between them
pub both_long : (r q : List ℕ) → length (stops_of_both r q) ≡ length r + length q + 3
both_long r q =
    let a = length-append (r ++ 0 ∷ []) (q ++ 0 ∷ []) in
    let b = length-append r (0 ∷ []) in
    let c = length-append q (0 ∷ []) in
    omega arith

pub both_front : (r q all : List ℕ) (n : ℕ) → all ≡ stops_of_both r q → n ≡ length r + 2 → take n all ≡ 0 ∷ (r ++ 0 ∷ [])
both_front r q all n e m =
    let b = length-append r (0 ∷ []) in
    let long : length (0 ∷ (r ++ 0 ∷ [])) ≡ n = omega arith in
    ap (λ (xs : List ℕ). take n xs) e
    ∙ subst (λ (k : ℕ). take k ((0 ∷ (r ++ 0 ∷ [])) ++ (q ++ 0 ∷ [])) ≡ 0 ∷ (r ++ 0 ∷ [])) long (take-append_seam (0 ∷ (r ++ 0 ∷ [])) (q ++ 0 ∷ []))

pub both_back : (r q all : List ℕ) (n : ℕ) → all ≡ stops_of_both r q → n ≡ length r + 1 → drop n all ≡ 0 ∷ (q ++ 0 ∷ [])
both_back r q all n e m =
    let long : length (0 ∷ r) ≡ n = omega arith in
    ap (λ (xs : List ℕ). drop n xs) (e ∙ ap (λ (xs : List ℕ). 0 ∷ xs) (append_assoc r (0 ∷ []) (q ++ 0 ∷ [])))
    ∙ subst (λ (k : ℕ). drop k ((0 ∷ r) ++ (0 ∷ (q ++ 0 ∷ []))) ≡ 0 ∷ (q ++ 0 ∷ [])) long (drop-append_seam (0 ∷ r) (0 ∷ (q ++ 0 ∷ [])))

-- the rest of a list, as its slice tells it
pub rest_whole : (n : ℕ) (xs : List ℕ) → take (length xs - n) (drop n xs) ≡ drop n xs
rest_whole n xs = subst (λ (k : ℕ). take k (drop n xs) ≡ drop n xs) (length-drop n xs) (take-length (drop n xs))

-- the ways along the first of some stops, and along the others
pub edges_front : (t : Table) (S E : List ℕ) (n : ℕ) → AreEdges t S E → n + 1 ≤ length S → AreEdges t (take (n + 1) S) (take n E)
edges_front t S E n e h =
    let c = e.counted in
    let a : length (take (n + 1) S) ≡ n + 1 = length-take-le (n + 1) S h in
    let b : length (take n E) ≡ n = length-take-le n E (omega arith) in
    record {
      counted = omega arith;
      hops = λ k l.
          let here = get_or-take (n + 1) S k 0 (omega arith) in
          let there = get_or-take (n + 1) S (k + 1) 0 (omega arith) in
          get_or-take n E k 0 (omega arith) ∙ e.hops k (omega arith)
          ∙ ap (λ (x : ℕ). hop t x (slice_index S (k + 1))) (sym here) ∙ ap (λ (x : ℕ). hop t (slice_index (take (n + 1) S) k) x) (sym there);
    }

pub edges_back : (t : Table) (S E : List ℕ) (n : ℕ) → AreEdges t S E → n < length S → AreEdges t (drop n S) (drop n E)
edges_back t S E n e h =
    let c = e.counted in
    let a = length-drop n S in
    let b = length-drop n E in
    record {
      counted = omega arith;
      hops = λ k l.
          let here = get_or-drop n S k 0 in
          let there : slice_index (drop n S) (k + 1) ≡ slice_index S (n + k + 1) = get_or-drop n S (k + 1) 0 ∙ ap (λ (m : ℕ). slice_index S m) (omega arith) in
          get_or-drop n E k 0 ∙ e.hops (n + k) (omega arith)
          ∙ ap (λ (x : ℕ). hop t x (slice_index S (n + k + 1))) (sym here) ∙ ap (λ (x : ℕ). hop t (slice_index (drop n S) k) x) (sym there);
    }

-- the first of two vehicles ends among the stops of both
pub middle_front : (r q S C : List ℕ) → C ≡ r → S ≡ stops_of_both r q → length C + 1 + 1 ≤ length S
middle_front r q S C e f =
    let here = ap length e in
    let all = ap length f in
    let both = both_long r q in
    omega arith

pub middle_back : (r q S C : List ℕ) → C ≡ r → S ≡ stops_of_both r q → length C + 1 ≤ length S
middle_back r q S C e f =
    let front = middle_front r q S C e f in
    omega arith

pub middle_ways : (r q S C : List ℕ) (n : ℕ) → C ≡ r → S ≡ stops_of_both r q → n + 1 ≡ length S → length C + 1 ≤ n
middle_ways r q S C n e f counted =
    let front = middle_front r q S C e f in
    omega arith
