-- A route with one of its customers replaced, or with two exchanged, in parts.
use Rattle.std.proofs.Common.{◌≡◌, ℕ, ◌+◌, ◌-◌, ◌<◌, ◌∙◌, suc, sym, ap, subst, arith, List, [], ◌∷◌, ◌++◌, length, take, drop, slice_set, append_assoc}
use Rattle.std.proofs.Math.Seq.{take-set-lt}
use Rattle.std.proofs.lemmas.List.{set_split, drop-set-lt, take-take, drop-take, length-set, length-take-le}

-- one customer
pub one_replaced : (r : List ℕ) (i : ℕ) (a : ℕ) → i < length r → take i r ++ ((a ∷ []) ++ drop (i + 1) r) ≡ slice_set r i a
one_replaced r i a h =
    let next : suc i ≡ i + 1 = omega arith in
    sym (subst (λ (n : ℕ). slice_set r i a ≡ take i r ++ (a ∷ drop n r)) next (set_split r i a h))

-- two customers, the second of them behind the first
pub two_replaced : (r : List ℕ) (i j a b : ℕ) → i < j → j < length r
    → take i r ++ ((a ∷ []) ++ (take (j - (i + 1)) (drop (i + 1) r) ++ ((b ∷ []) ++ drop (j + 1) r))) ≡ slice_set (slice_set r i a) j b
two_replaced r i j a b order high =
    let m : ℕ = j - (i + 1) in
    let reach : i + 1 + m ≡ j = omega arith in
    let long : length (slice_set r i a) ≡ length r = length-set r i a in
    let back : drop (j + 1) (slice_set r i a) ≡ drop (j + 1) r = drop-set-lt (j + 1) r i a (omega arith) in
    let kept : length (take j r) ≡ j = length-take-le j r (omega arith) in
    let inner : take i (take j r) ++ ((a ∷ []) ++ drop (i + 1) (take j r)) ≡ slice_set (take j r) i a = one_replaced (take j r) i a (omega arith) in
    let short : take i (take j r) ≡ take i r = take-take i j r (omega arith) in
    let middle : drop (i + 1) (take j r) ≡ take m (drop (i + 1) r) = subst (λ (n : ℕ). drop (i + 1) (take n r) ≡ take m (drop (i + 1) r)) reach (drop-take (i + 1) m r) in
    let front : take i r ++ ((a ∷ []) ++ take m (drop (i + 1) r)) ≡ take j (slice_set r i a) =
    sym (ap (λ (xs : List ℕ). xs ++ ((a ∷ []) ++ drop (i + 1) (take j r))) short ∙ ap (λ (xs : List ℕ). take i r ++ ((a ∷ []) ++ xs)) middle) ∙ inner ∙ sym (take-set-lt j r i a order) in
    let outer : take j (slice_set r i a) ++ ((b ∷ []) ++ drop (j + 1) (slice_set r i a)) ≡ slice_set (slice_set r i a) j b = one_replaced (slice_set r i a) j b (omega arith) in
    sym (append_assoc (take i r) ((a ∷ []) ++ take m (drop (i + 1) r)) ((b ∷ []) ++ drop (j + 1) r))
    ∙ ap (λ (xs : List ℕ). xs ++ ((b ∷ []) ++ drop (j + 1) r)) front
    ∙ ap (λ (xs : List ℕ). take j (slice_set r i a) ++ ((b ∷ []) ++ xs)) (sym back)
    ∙ outer
