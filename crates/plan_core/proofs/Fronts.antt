-- The longest common prefix of two lists, as a number.
use Rattle.std.proofs.Common.{◌≡◌, ◌≢◌, ℕ, zero, suc, ◌+◌, ◌<◌, ◌≤◌, ◌⊎◌, sym, ap, subst, refl, arith, inl, inr, List, [], ◌∷◌, length, take, slice_index}
use Rattle.std.proofs.lemmas.Bool.{cases_eq, eq-eqb, ne_eqb, cases_order}
use Rattle.std.proofs.lemmas.List.{take_more_same}
use Rattle.plan_core.specs.Front.{IsCommonFront, common_front}

-- the heads of two lists that are the same
heads : (x y : ℕ) (xs ys : List ℕ) → x ∷ xs ≡ y ∷ ys → x ≡ y
heads x y xs ys e = ap (λ (l : List ℕ). slice_index l 0) e

tail_of : List ℕ → List ℕ
tail_of [] = []
tail_of (x ∷ xs) = xs

tails : (x y : ℕ) (xs ys : List ℕ) → x ∷ xs ≡ y ∷ ys → xs ≡ ys
unfolding tail_of
tails x y xs ys e = ap tail_of e

no_front : (xs ys : List ℕ) → ((k : ℕ) → suc k ≤ length xs → suc k ≤ length ys → take (suc k) xs ≡ take (suc k) ys → ⊥) → IsCommonFront xs ys 0
no_front xs ys none = record { left = omega arith; right = omega arith; same = refl; greatest = λ k. low k }
  where
    low : (k : ℕ) → k ≤ length xs → k ≤ length ys → take k xs ≡ take k ys → k ≤ 0
    low zero h l e = omega arith
    low (suc k) h l e = absurd (none k h l e)

more_front : (x : ℕ) (xs ys : List ℕ) (n : ℕ) → IsCommonFront xs ys n → IsCommonFront (x ∷ xs) (x ∷ ys) (1 + n)
more_front x xs ys n f =
    let left = f.left in
    let right = f.right in
    let e : 1 + n ≡ suc n = omega arith in
    record {
      left = omega arith;
      right = omega arith;
      same = rw e (ap (λ (l : List ℕ). x ∷ l) f.same);
      greatest = λ k. low k;
    }
  where
    low : (k : ℕ) → k ≤ length (x ∷ xs) → k ≤ length (x ∷ ys) → take k (x ∷ xs) ≡ take k (x ∷ ys) → k ≤ 1 + n
    low zero h l e = omega arith
    low (suc k) h l e = omega (arith, f.greatest k (omega arith) (omega arith) (tails x x (take k xs) (take k ys) e))

pub front_is : (xs ys : List ℕ) → IsCommonFront xs ys (common_front xs ys)
front_is [] ys = no_front [] ys (λ k h l e. omega arith)
front_is (x ∷ xs) [] = no_front (x ∷ xs) [] (λ k h l e. omega arith)
front_is (x ∷ xs) (y ∷ ys) = split (front_is xs ys) (cases_eq x y)
  where
    split : IsCommonFront xs ys (common_front xs ys) → (x ≡ y) ⊎ (x ≡ y → ⊥) → IsCommonFront (x ∷ xs) (y ∷ ys) (common_front (x ∷ xs) (y ∷ ys))
    split rest (inl e) = rw (eq-eqb x y e, ← e) (more_front x xs ys (common_front xs ys) rest)
    split rest (inr o) = rw (ne_eqb x y o) (no_front (x ∷ xs) (y ∷ ys) (λ k h l e. o (heads x y (take k xs) (take k ys) e)))

-- no other number is
pub front_only : (xs ys : List ℕ) (n : ℕ) → IsCommonFront xs ys n → n ≡ common_front xs ys
front_only xs ys n f =
    let g = front_is xs ys in
    let up = g.greatest n f.left f.right f.same in
    let down = f.greatest (common_front xs ys) g.left g.right g.same in
    omega arith

-- a number is the greatest where the lists differ after it, or one of them ends there
pub front_at : (xs ys : List ℕ) (n : ℕ) → n ≤ length xs → n ≤ length ys → take n xs ≡ take n ys
    → (n < length xs → n < length ys → slice_index xs n ≡ slice_index ys n → ⊥) → IsCommonFront xs ys n
front_at xs ys n left right same differ = record { left = left; right = right; same = same; greatest = λ k h l e. low k h l e (cases_order n k) }
  where
    read : (xs ys : List ℕ) (n k : ℕ) → n < k → take k xs ≡ take k ys → slice_index xs n ≡ slice_index ys n
    read xs ys n zero h e = absurd (omega arith)
    read [] [] n (suc k) h e = refl
    read [] (y ∷ ys) n (suc k) h e = absurd (omega (arith, ap length e))
    read (x ∷ xs) [] n (suc k) h e = absurd (omega (arith, ap length e))
    read (x ∷ xs) (y ∷ ys) zero (suc k) h e = heads x y (take k xs) (take k ys) e
    read (x ∷ xs) (y ∷ ys) (suc n) (suc k) h e = read xs ys n k (omega arith) (tails x y (take k xs) (take k ys) e)

    low : (k : ℕ) → k ≤ length xs → k ≤ length ys → take k xs ≡ take k ys → (n ≡ k) ⊎ ((n < k) ⊎ (k < n)) → k ≤ n
    low k h l e (inl same) = omega arith
    low k h l e (inr (inl more)) = absurd (differ (omega arith) (omega arith) (read xs ys n k more e))
    low k h l e (inr (inr less)) = omega arith

-- one list ends there
pub front_past : (xs ys : List ℕ) (n : ℕ) → n < length xs → length ys ≤ n → n ≤ length ys → take n xs ≡ take n ys → IsCommonFront xs ys n
front_past xs ys n more ends within same = front_at xs ys n (omega arith) within same (λ h l e. omega arith)

pub front_whole : (xs ys : List ℕ) (n : ℕ) → length xs ≤ n → n ≤ length xs → n ≤ length ys → take n xs ≡ take n ys → IsCommonFront xs ys (length xs)
front_whole xs ys n ended end within same =
    let here : n ≡ length xs = omega arith in
    subst (λ (m : ℕ). IsCommonFront xs ys m) here (front_at xs ys n end within same (λ h l e. omega arith))

-- or the lists differ
pub front_differs : (xs ys : List ℕ) (n : ℕ) → n < length xs → n ≤ length ys → take n xs ≡ take n ys → slice_index ys n ≢ slice_index xs n → IsCommonFront xs ys n
front_differs xs ys n more within same differ = front_at xs ys n (omega arith) within same (λ h l e. differ (sym e))

-- one more element is the same
pub front_next : (xs ys : List ℕ) (n : ℕ) → n < length xs → n < length ys → take n xs ≡ take n ys → slice_index ys n ≡ slice_index xs n
    → (take (n + 1) xs ≡ take (n + 1) ys) × (n + 1 ≤ length ys)
front_next xs ys n h l same e = (take_more_same xs ys n 0 h l same (sym e), omega arith)
