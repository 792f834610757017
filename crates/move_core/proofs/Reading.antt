-- Places in a route that was read, by those in the route that it is.
use Rattle.std.proofs.Common.{◌≡◌, ℕ, ◌+◌, ◌-◌, ◌<◌, ◌≤◌, ap, arith, List, length}

pub before : (p q : ℕ) → p < q → p ≤ q
before p q h = omega arith

pub place_in : (p : ℕ) (xs ys : List ℕ) → xs ≡ ys → p ≤ length ys → p ≤ length xs
place_in p xs ys e h = let long = ap length e in omega arith

pub room_in : (p : ℕ) (xs ys : List ℕ) → xs ≡ ys → p ≤ length ys + 1 → p ≤ length xs + 1
room_in p xs ys e h = let long = ap length e in omega arith

pub before_end : (p : ℕ) (xs ys : List ℕ) → xs ≡ ys → 1 ≤ p → p ≤ length ys → p - 1 < length xs
before_end p xs ys e low high = let long = ap length e in omega arith

pub reach_in : (p q : ℕ) (xs ys : List ℕ) → xs ≡ ys → p < q → q ≤ length ys → p + (q - p + 1) ≤ length xs + 1
reach_in p q xs ys e order high = let long = ap length e in omega arith

-- a place in a route of at most a thousand customers
pub touch_fits : (p : ℕ) (xs ys : List ℕ) → xs ≡ ys → p ≤ length ys → length xs ≤ 1000 → p + 1 < 4294967296
touch_fits p xs ys e h short = let long = ap length e in omega arith
