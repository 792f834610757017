use Rattle.std.proofs.Common.{◌≡◌, ◌∙◌, ℕ, suc, ◌+◌, ◌<◌, refl, sym, ap, arith, List, [], ◌∷◌, ◌++◌, length, take, drop, reverse, slice_index, append_assoc}
use Rattle.std.proofs.lemmas.List.{drop_more, reverse-append}
use Rattle.std.proofs.Math.Seq.{take-add}
use Rattle.dimension_core.specs.Cumuls.{last_of}
use Rattle.plan_core.specs.Cost.{way}
use Rattle.way_costs.specs.Ways.{turned}
use Rattle.way_costs.proofs.WayParts.{way_append, last_take, three_parts, stretch_head, stretch_last}

-- a stretch driven back costs what its ways driven back cost
pub back_way : (f : ℕ → ℕ → ℕ) (x s : ℕ) (ss ys : List ℕ) → way f x (reverse (s ∷ ss) ++ ys) ≡ f x (last_of s ss) + way (turned f) s ss + way f s ys
back_way f x s [] ys = omega arith
back_way f x s (u ∷ us) ys =
    let e : reverse (s ∷ (u ∷ us)) ++ ys ≡ reverse (u ∷ us) ++ (s ∷ ys) =
    ap (λ (zs : List ℕ). zs ++ ys) (reverse-append (s ∷ []) (u ∷ us)) ∙ append_assoc (reverse (u ∷ us)) (s ∷ []) ys in
    let h : way f x (reverse (u ∷ us) ++ (s ∷ ys)) ≡ f x (last_of u us) + way (turned f) u us + way f u (s ∷ ys) = back_way f x u us (s ∷ ys) in
    ap (way f x) e ∙ (omega arith)

-- what so many first ways of a list cost
abbrev sums : (ℕ → ℕ → ℕ) → List ℕ → ℕ → ℕ
sums f R k = way f 0 (take k R)

reverse_parts : (f : ℕ → ℕ → ℕ) (a : List ℕ) (s : ℕ) (ss : List ℕ) (z : ℕ) (bs : List ℕ)
    → way f 0 (a ++ (reverse (s ∷ ss) ++ (z ∷ bs))) + (f (last_of 0 a) s + way f s ss + f (last_of s ss) z)
    ≡ way f 0 (a ++ ((s ∷ ss) ++ (z ∷ bs))) + (f (last_of 0 a) (last_of s ss) + way (turned f) s ss + f s z)
reverse_parts f a s ss z bs =
    let e1 = way_append f 0 a (reverse (s ∷ ss) ++ (z ∷ bs)) in
    let e2 = back_way f (last_of 0 a) s ss (z ∷ bs) in
    let e3 = way_append f 0 a ((s ∷ ss) ++ (z ∷ bs)) in
    let e4 = way_append f s ss (z ∷ bs) in
    omega arith

-- the inner ways of a stretch, by two prefix sums
pub inner_way : (f : ℕ → ℕ → ℕ) (R : List ℕ) (i n : ℕ) → i < length R
    → sums f R (i + suc n) ≡ sums f R (i + 1) + way f (slice_index R i) (take n (drop (i + 1) R))
inner_way f R i n h =
    let e : i + suc n ≡ (i + 1) + n = omega arith in
    let parts : take (i + suc n) R ≡ take (i + 1) R ++ take n (drop (i + 1) R) = ap (λ (k : ℕ). take k R) e ∙ take-add (i + 1) n R in
    let g : i + 1 ≡ suc i = omega arith in
    let last : last_of 0 (take (i + 1) R) ≡ slice_index R i = last_take 0 R (i + 1) (omega arith) ∙ ap (slice_index (0 ∷ R)) g in
    ap (way f 0) parts ∙ way_append f 0 (take (i + 1) R) (take n (drop (i + 1) R))
    ∙ ap (λ (x : ℕ). sums f R (i + 1) + way f x (take n (drop (i + 1) R))) last

-- a stretch of a way is driven back, by places from 0 on: O(1) a candidate, with both prefix sums at hand
pub reversed_ways : (f : ℕ → ℕ → ℕ) (R : List ℕ) (i n : ℕ) → i + suc n < length R
    → way f 0 (take i R ++ (reverse (take (suc n) (drop i R)) ++ drop (i + suc n) R))
    + (f (slice_index (0 ∷ R) i) (slice_index R i) + sums f R (i + suc n) + sums (turned f) R (i + 1) + f (slice_index (0 ∷ R) (i + suc n)) (slice_index R (i + suc n)))
    ≡ way f 0 R
    + (f (slice_index (0 ∷ R) i) (slice_index (0 ∷ R) (i + suc n)) + sums (turned f) R (i + suc n) + sums f R (i + 1) + f (slice_index R i) (slice_index R (i + suc n)))
reversed_ways f R i n h =
    let s : ℕ = slice_index R i in
    let ss : List ℕ = take n (drop (i + 1) R) in
    let a : List ℕ = take i R in
    let z : ℕ = slice_index R (i + suc n) in
    let bs : List ℕ = drop (i + suc n + 1) R in
    let law = reverse_parts f (take i R) (slice_index R i) (take n (drop (i + 1) R)) (slice_index R (i + suc n)) (drop (i + suc n + 1) R) in
    let em : take (suc n) (drop i R) ≡ slice_index R i ∷ take n (drop (i + 1) R) = stretch_head R i n (omega arith) in
    let eb : drop (i + suc n) R ≡ slice_index R (i + suc n) ∷ drop (i + suc n + 1) R = drop_more R (i + suc n) 0 h in
    let new : way f 0 (take i R ++ (reverse (take (suc n) (drop i R)) ++ drop (i + suc n) R))
    ≡ way f 0 (take i R ++ (reverse (slice_index R i ∷ take n (drop (i + 1) R)) ++ (slice_index R (i + suc n) ∷ drop (i + suc n + 1) R))) = rw (em, eb) refl in
    let old : way f 0 (take i R ++ ((slice_index R i ∷ take n (drop (i + 1) R)) ++ (slice_index R (i + suc n) ∷ drop (i + suc n + 1) R))) ≡ way f 0 R =
    ap (λ (ys : List ℕ). way f 0 (take i R ++ (ys ++ (slice_index R (i + suc n) ∷ drop (i + suc n + 1) R)))) (sym em)
    ∙ ap (λ (ys : List ℕ). way f 0 (take i R ++ (take (suc n) (drop i R) ++ ys))) (sym eb) ∙ ap (way f 0) (sym (three_parts i (suc n) R)) in
    let front : last_of 0 (take i R) ≡ slice_index (0 ∷ R) i = last_take 0 R i (omega arith) in
    let end : last_of (slice_index R i) (take n (drop (i + 1) R)) ≡ slice_index (0 ∷ R) (i + suc n) =
    sym (ap (last_of (last_of 0 (take i R))) em) ∙ stretch_last 0 R i (suc n) (omega arith) in
    let x1 : f (last_of 0 (take i R)) (slice_index R i) ≡ f (slice_index (0 ∷ R) i) (slice_index R i) = ap (λ (k : ℕ). f k (slice_index R i)) front in
    let x2 : f (last_of (slice_index R i) (take n (drop (i + 1) R))) (slice_index R (i + suc n)) ≡ f (slice_index (0 ∷ R) (i + suc n)) (slice_index R (i + suc n)) =
    ap (λ (k : ℕ). f k (slice_index R (i + suc n))) end in
    let x3 : f (last_of 0 (take i R)) (last_of (slice_index R i) (take n (drop (i + 1) R))) ≡ f (slice_index (0 ∷ R) i) (slice_index (0 ∷ R) (i + suc n)) =
    ap (λ (k : ℕ). f k (last_of (slice_index R i) (take n (drop (i + 1) R)))) front ∙ ap (f (slice_index (0 ∷ R) i)) end in
    let p1 = inner_way f R i n (omega arith) in
    let p2 = inner_way (turned f) R i n (omega arith) in
    omega arith
