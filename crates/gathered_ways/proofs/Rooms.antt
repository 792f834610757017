-- The room that stops take, of routes of few customers.
use Rattle.std.proofs.Common.{Fits, w64, ◌*◌, ◌≡◌, ℕ, ◌+◌, ◌≤◌, ap, arith, List, length}
use Rattle.gathered_ways.specs.Sides.{stops_of_both}

pub two_some : (n : ℕ) → 2 ≤ n → 1 ≤ n
two_some n h = omega arith

-- the stops of a route of few customers
pub one_more_fits : (C r : List ℕ) (n : ℕ) → C ≡ r → length r ≤ n → n ≤ 1000 → Fits w64 (length C + 1)
one_more_fits C r n e short few = let long = ap length e in omega arith

pub two_more_fit : (C r : List ℕ) (n : ℕ) → C ≡ r → length r ≤ n → n ≤ 1000 → Fits w64 (length C + 1 + 1)
two_more_fit C r n e short few = let long = ap length e in omega arith

pub twice_fit : (C r : List ℕ) (n : ℕ) → C ≡ r → length r ≤ n → n ≤ 1000 → Fits w64 (2 * length C)
twice_fit C r n e short few = let long = ap length e in omega arith

pub twice_more_fit : (C r : List ℕ) (n : ℕ) → C ≡ r → length r ≤ n → n ≤ 1000 → Fits w64 (2 * length C + 3)
twice_more_fit C r n e short few = let long = ap length e in omega arith

-- and of two
pub both_fit : (C r D q : List ℕ) (n : ℕ) → C ≡ r → D ≡ q → length r ≤ n → length q ≤ n → n ≤ 1000 → Fits w64 (length C + length D)
both_fit C r D q n e f short low few =
    let long = ap length e in
    let other = ap length f in
    omega arith

pub both_more_fit : (C r D q : List ℕ) (n : ℕ) → C ≡ r → D ≡ q → length r ≤ n → length q ≤ n → n ≤ 1000 → Fits w64 (length C + length D + 3)
both_more_fit C r D q n e f short low few =
    let long = ap length e in
    let other = ap length f in
    omega arith

pub both_some : (r q xs : List ℕ) → xs ≡ stops_of_both r q → 1 ≤ length xs
both_some r q xs e = let long = ap length e in omega arith
