-- Places of a route against its length, and the parts of a new route against those of the old ones.
use Rattle.std.proofs.Common.{◌≡◌, ◌≢◌, ◌∙◌, ℕ, ◌+◌, ◌-◌, ◌<◌, ◌≤◌, Fits, w32, w64, refl, ap, arith, List, ◌++◌, length, take, drop}

pub at_most_as : (v n m : ℕ) → n ≡ m → v ≤ n → v ≤ m
at_most_as v n m e h = omega arith

pub at_before : (p q : ℕ) → p < q → p ≤ q
at_before p q h = omega arith

pub none_less : (n : ℕ) → n < 0 → ⊥
none_less n h = absurd (omega arith)

pub less_as : (k n m : ℕ) → n ≡ m → k < n → k < m
less_as k n m e h = omega arith

pub no_more : (n m : ℕ) → n ≡ m → m ≤ n
no_more n m e = omega arith

pub nearer_end : (n k : ℕ) → k < n → n - (k + 1) < n - k
nearer_end n k h = omega arith

pub counted_fits : (k n : ℕ) → k < n → n ≤ 1000 → Fits w32 (k + 1)
counted_fits k n h few = omega arith

pub count_fits : (n : ℕ) → n ≤ 1000 → Fits w32 n
count_fits n few = omega arith

pub few_fit : (k : ℕ) → k < 3 → Fits w32 k
few_fit k h = omega arith

pub index_fits : (p k : ℕ) → Fits w32 p → k < 3 → Fits w64 (p - 1 + k)
index_fits p k small h = omega arith

pub none_below : (n : ℕ) → 0 ≤ n
none_below n = omega arith

pub stretch_fits : (k m n : ℕ) → k ≤ m + 1 → m ≤ n → n ≤ 1000 → Fits w32 k
stretch_fits k m n h l few = omega arith

pub below_sum : (n m : ℕ) → n ≤ n + m
below_sum n m = omega arith

pub before_from : (p q : ℕ) → q - 1 < p - 1 → q < p
before_from p q h = omega arith

pub after_from : (p q : ℕ) → 1 ≤ p → 1 ≤ q → p - 1 ≤ q - 1 → q ≢ p → p < q
after_from p q lp lq h o = omega arith

pub before_within : (p n : ℕ) → p ≤ n → p - 1 ≤ n
before_within p n h = omega arith

pub as_long : (p : ℕ) (xs ys : List ℕ) → xs ≡ ys → p ≤ length ys → p ≤ length xs
as_long p xs ys e h = let long = ap length e in omega arith

pub end_within : (p : ℕ) (xs ys : List ℕ) → xs ≡ ys → p ≤ length ys + 1 → p ≤ length xs + 1
end_within p xs ys e h = let long = ap length e in omega arith

pub place_within : (p : ℕ) (xs ys : List ℕ) → xs ≡ ys → p ≤ length ys + 1 → p - 1 ≤ length xs
place_within p xs ys e h = let long = ap length e in omega arith

pub first_within : (p n : ℕ) (xs ys : List ℕ) → xs ≡ ys → p + n ≤ length ys + 1 → p - 1 ≤ length xs
first_within p n xs ys e h = let long = ap length e in omega arith

pub last_within : (p n : ℕ) (xs ys : List ℕ) → xs ≡ ys → 1 ≤ p → p + n ≤ length ys + 1 → p - 1 + n ≤ length xs
last_within p n xs ys e low h = let long = ap length e in omega arith

pub first_before : (p q n : ℕ) → p < q → q ≤ n → p - 1 ≤ n
first_before p q n h high = omega arith

-- parts of a route that is the old one
pub part_of_old : (i j n m : ℕ) (xs r s : List ℕ) → xs ≡ take n (drop i r) → n ≡ m → i ≡ j → r ≡ s → xs ≡ take m (drop j s)
part_of_old i j n m xs r s e en ei f =
    e ∙ ap (λ (k : ℕ). take k (drop i r)) en ∙ ap (λ (k : ℕ). take m (drop k r)) ei ∙ ap (λ (ys : List ℕ). take m (drop j ys)) f

pub stretch_of_old : (p m : ℕ) (xs r s : List ℕ) → xs ≡ take (p + m - p) (drop (p - 1) r) → r ≡ s → xs ≡ take m (drop (p - 1) s)
stretch_of_old p m xs r s e f = part_of_old (p - 1) (p - 1) (p + m - p) m xs r s e (omega arith) refl f

-- a route by two parts, and by more
pub two_parts : (a b c d : List ℕ) → a ≡ b → c ≡ d → a ++ c ≡ b ++ d
two_parts a b c d e f = ap (λ (ys : List ℕ). ys ++ c) e ∙ ap (λ (ys : List ℕ). b ++ ys) f

pub three_parts : (a b c d x y : List ℕ) → a ≡ b → c ≡ d → x ≡ y → a ++ (c ++ x) ≡ b ++ (d ++ y)
three_parts a b c d x y e f h = two_parts a b (c ++ x) (d ++ y) e (two_parts c d x y f h)

pub four_parts : (a b c d x y v w : List ℕ) → a ≡ b → c ≡ d → x ≡ y → v ≡ w → a ++ (c ++ (x ++ v)) ≡ b ++ (d ++ (y ++ w))
four_parts a b c d x y v w e f h i = two_parts a b (c ++ (x ++ v)) (d ++ (y ++ w)) e (three_parts c d x y v w f h i)

pub all_parts : (a b c d x y v w m n : List ℕ) → a ≡ b → c ≡ d → x ≡ y → v ≡ w → m ≡ n → a ++ (c ++ (x ++ (v ++ m))) ≡ b ++ (d ++ (y ++ (w ++ n)))
all_parts a b c d x y v w m n e f h i j = two_parts a b (c ++ (x ++ (v ++ m))) (d ++ (y ++ (w ++ n))) e (four_parts c d x y v w m n f h i j)
