-- New routes by their two parts: the customers that a draft keeps, and the rest.
use Rattle.std.proofs.Common.{◌≡◌, ℕ, ◌+◌, ◌-◌, ◌≤◌, ◌⊎◌, ◌↔◌, ◌∙◌, inl, inr, sym, ap, subst, arith, List, ◌++◌, length, take, drop, Bool, true, false, IsTrue, Contains}
use Rattle.std.proofs.lemmas.List.{length-take-le, take_rest, append_cancel_left}
use Rattle.std.proofs.lemmas.List.Elements.{Contains-append_left, Contains-append_right, Contains-append_cases}
use Rattle.std.proofs.Math.Seq.{take-add, take-append-add}

-- the first n customers of a new route that keeps fewer, and of the old one
new_front : (n k : ℕ) (old rest : List ℕ) → k ≤ n → k ≤ length old → take n (take k old ++ rest) ≡ take k old ++ take (n - k) rest
new_front n k old rest few fit =
    let long : length (take k old) ≡ k = length-take-le k old fit in
    let whole : n ≡ length (take k old) + (n - k) = omega arith in
    ap (λ (m : ℕ). take m (take k old ++ rest)) whole ∙ take-append-add (take k old) rest (n - k)

old_front : (n k : ℕ) (old : List ℕ) → k ≤ n → take n old ≡ take k old ++ take (n - k) (drop k old)
old_front n k old few =
    let whole : n ≡ k + (n - k) = omega arith in
    ap (λ (m : ℕ). take m old) whole ∙ take-add k (n - k) old

-- they are the same exactly where those after the kept ones are
front_after : (n k : ℕ) (old rest : List ℕ) → k ≤ n → k ≤ length old
    → (take (n - k) rest ≡ take (n - k) (drop k old)) ↔ (take n (take k old ++ rest) ≡ take n old)
front_after n k old rest few fit =
    let new = new_front n k old rest few fit in
    let same = old_front n k old few in (
      λ e. new ∙ ap (λ (xs : List ℕ). take k old ++ xs) e ∙ sym same,
      λ e. append_cancel_left (take k old) _ _ (sym new ∙ e ∙ same),
    )

-- what is answered where those are compared, as they are read
pub front_compared : (n k m j : ℕ) (old rest xs ys : List ℕ) (alike : Bool) → m ≡ n → j ≡ k → xs ≡ old → ys ≡ rest → k ≤ n → k ≤ length old
    → IsTrue alike ↔ (take (m - j) ys ≡ take (m - j) (take (length xs - j) (drop j xs))) → IsTrue alike ↔ (take n (take k old ++ rest) ≡ take n old)
front_compared n k m j old rest xs ys alike en ek eo er few fit compared =
    let both = front_after n k old rest few fit in
    let whole : take (length xs - j) (drop j xs) ≡ drop j xs = take_rest xs j in (
      λ yes. both.0 (let e = compared.0 yes in cc),
      λ same. compared.1 (let e = both.1 same in cc),
    )

-- a customer that is in the rest is on the new route
pub in_rest : (kept rest read : List ℕ) (c : ℕ) (found : Bool) → read ≡ rest → found ≡ true → IsTrue found ↔ Contains read c
    → IsTrue found ↔ Contains (kept ++ rest) c
in_rest kept rest read c found er there inside =
    (λ is. Contains-append_right kept rest c (subst (λ (xs : List ℕ). Contains xs c) er (inside.0 is)), λ _. there)

-- one that is not is on it exactly where it is kept
pub in_kept : (kept rest read : List ℕ) (c : ℕ) (found stays : Bool) → read ≡ rest → found ≡ false → IsTrue found ↔ Contains read c
    → IsTrue stays ↔ Contains kept c → IsTrue stays ↔ Contains (kept ++ rest) c
in_kept kept rest read c found stays er away inside keeps =
    (λ is. Contains-append_left kept rest c (keeps.0 is), λ on. split (Contains-append_cases kept rest c on))
  where
    split : Contains kept c ⊎ Contains rest c → IsTrue stays
    split (inl h) = keeps.1 h
    split (inr h) =
        let there : found ≡ true = inside.1 (subst (λ (xs : List ℕ). Contains xs c) (sym er) h) in
        let both : true ≡ false = sym there ∙ away in
        cc
