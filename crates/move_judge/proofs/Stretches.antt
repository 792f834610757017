-- Lists in parts.
use Rattle.std.proofs.Common.{◌≡◌, ◌∙◌, ℕ, suc, ◌+◌, ◌<◌, sym, ap, List, ◌∷◌, ◌++◌, length, take, drop, slice_index, slice_set}
use Rattle.std.proofs.lemmas.List.{drop_more, take-append-drop, take-set, drop-set}

-- the first of a stretch
pub stretch_head : (xs : List ℕ) (i n : ℕ) → i < length xs → take (suc n) (drop i xs) ≡ slice_index xs i ∷ take n (drop (i + 1) xs)
stretch_head xs i n h = ap (λ (ys : List ℕ). take (suc n) ys) (drop_more xs i 0 h)

-- a list with another element at a place
pub set_parts : (r : List ℕ) (i d : ℕ) → i < length r → slice_set r i d ≡ take i r ++ (d ∷ drop (i + 1) r)
set_parts r i d h =
    sym (take-append-drop i (slice_set r i d)) ∙ ap (λ (ys : List ℕ). ys ++ drop i (slice_set r i d)) (take-set r i d)
    ∙ ap (λ (ys : List ℕ). take i r ++ ys) (drop-set r i d h)
