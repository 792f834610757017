-- The new routes of moves, each as a route of which a stretch is replaced.
use Rattle.std.proofs.Common.{◌≡◌, ◌∙◌, ℕ, ◌+◌, ◌-◌, ◌<◌, ◌≤◌, ap, arith, List, ◌++◌, take, drop, reverse}
use Rattle.move_core.specs.Moves.{without, with_stretch, stretch}
use Rattle.move_judge.proofs.Places.{three_parts, four_parts, all_parts}

piece : (b n m : ℕ) (r s : List ℕ) → n ≡ m → r ≡ s → take n (drop b r) ≡ take m (drop b s)
piece b n m r s e er = ap (λ (k : ℕ). take k (drop b r)) e ∙ ap (λ (ys : List ℕ). take m (drop b ys)) er

-- a shift to another vehicle
pub taken : (p m : ℕ) (r s : List ℕ) → r ≡ s → take (p - 1) r ++ drop (p - 1 + m) r ≡ without s p m
taken p m r s er = ap (λ (ys : List ℕ). without ys p m) er

pub given : (p m at : ℕ) (r s q t : List ℕ) → r ≡ s → q ≡ t
    → take (at - 1) q ++ (take (p - 1 + m - (p - 1)) (drop (p - 1) r) ++ drop (at - 1) q) ≡ with_stretch t at (stretch s p m)
given p m at r s q t er eq = three_parts _ _ _ _ _ _ (ap (take (at - 1)) eq) (piece (p - 1) _ m r s (omega arith) er) (ap (drop (at - 1)) eq)

-- a swap with another vehicle
pub exchanged : (p at : ℕ) (r s q t : List ℕ) → 1 ≤ p → 1 ≤ at → r ≡ s → q ≡ t
    → take (p - 1) r ++ (take (at - (at - 1)) (drop (at - 1) q) ++ drop p r) ≡ take (p - 1) s ++ (stretch t at 1 ++ drop (p - 1 + 1) s)
exchanged p at r s q t lp la er eq =
    let next : p ≡ p - 1 + 1 = omega arith in
    three_parts _ _ _ _ _ _ (ap (take (p - 1)) er) (piece (at - 1) _ 1 q t (omega arith) eq) (ap (λ (k : ℕ). drop k r) next ∙ ap (drop (p - 1 + 1)) er)

-- a shift inside a vehicle, to the front and to the back
pub forwards : (p m at : ℕ) (r s : List ℕ) → 1 ≤ at → at - 1 < p - 1 → r ≡ s
    → take (at - 1) r ++ (take (p - 1 + m - (p - 1)) (drop (p - 1) r) ++ (take (p - 1 - (at - 1)) (drop (at - 1) r) ++ drop (p - 1 + m) r))
    ≡ take (at - 1) s ++ (stretch s p m ++ (take (p - at) (drop (at - 1) s) ++ drop (p - 1 + m) s))
forwards p m at r s low h er =
    four_parts _ _ _ _ _ _ _ _ (ap (take (at - 1)) er) (piece (p - 1) _ m r s (omega arith) er) (piece (at - 1) _ (p - at) r s (omega arith) er) (ap (drop (p - 1 + m)) er)

pub backwards : (p m at : ℕ) (r s : List ℕ) → 1 ≤ p → p - 1 ≤ at - 1 → r ≡ s
    → take (p - 1) r ++ (take (at - 1 + m - (p - 1 + m)) (drop (p - 1 + m) r) ++ (take (p - 1 + m - (p - 1)) (drop (p - 1) r) ++ drop (at - 1 + m) r))
    ≡ take (p - 1) s ++ (take (at - p) (drop (p - 1 + m) s) ++ (stretch s p m ++ drop (at - 1 + m) s))
backwards p m at r s low h er =
    four_parts _ _ _ _ _ _ _ _ (ap (take (p - 1)) er) (piece (p - 1 + m) _ (at - p) r s (omega arith) er) (piece (p - 1) _ m r s (omega arith) er) (ap (drop (at - 1 + m)) er)

-- a reverse
pub turned_round : (i j : ℕ) (r s : List ℕ) → 1 ≤ i → i < j → r ≡ s
    → take (i - 1) r ++ (reverse (take (j - (i - 1)) (drop (i - 1) r)) ++ drop j r) ≡ take (i - 1) s ++ (reverse (stretch s i (j - i + 1)) ++ drop j s)
turned_round i j r s low h er =
    three_parts _ _ _ _ _ _ (ap (take (i - 1)) er) (ap reverse (piece (i - 1) _ (j - i + 1) r s (omega arith) er)) (ap (drop j) er)

-- a swap inside a vehicle
pub swapped : (p q : ℕ) (r s : List ℕ) → 1 ≤ p → p < q → r ≡ s
    → take (p - 1) r ++ (take (q - (q - 1)) (drop (q - 1) r) ++ (take (q - 1 - p) (drop p r) ++ (take (p - (p - 1)) (drop (p - 1) r) ++ drop q r)))
    ≡ take (p - 1) s ++ (stretch s q 1 ++ (take (q - (p + 1)) (drop p s) ++ (stretch s p 1 ++ drop q s)))
swapped p q r s low h er =
    all_parts _ _ _ _ _ _ _ _ _ _ (ap (take (p - 1)) er) (piece (q - 1) _ 1 r s (omega arith) er) (piece p _ (q - (p + 1)) r s (omega arith) er)
    (piece (p - 1) _ 1 r s (omega arith) er) (ap (drop q) er)
