-- The numbers of the kinds of moves, told apart where a tactic has little to read.
use Rattle.std.proofs.Common.{◌≡◌, ℕ, ◌+◌, ◌<◌, ◌⊎◌, inl, inr, arith}

pub one_two : 1 < 2
one_two = omega arith

pub one_three : 1 < 3
one_three = omega arith

pub one_four : 1 < 4
one_four = omega arith

pub one_five : 1 < 5
one_five = omega arith

pub two_three : 2 < 3
two_three = omega arith

pub two_four : 2 < 4
two_four = omega arith

pub two_five : 2 < 5
two_five = omega arith

pub three_four : 3 < 4
three_four = omega arith

pub three_five : 3 < 5
three_five = omega arith

pub four_five : 4 < 5
four_five = omega arith

pub not_below : (x : ℕ) → x < x → ⊥
not_below x h = absurd (omega arith)

-- a number after which there is one more
pub next : (a : ℕ) → a < a + 1
next a = omega arith

-- nothing lies between them
pub not_between : (a b : ℕ) → a < b → b < a + 1 → ⊥
not_between a b h k = absurd (omega arith)

pub later : {A : Type 0} (x y : ℕ) → y < x → (x < y) ⊎ ((x ≡ y) × A) → ⊥
later x y h (inl k) = absurd (omega arith)
later x y h (inr (e, a)) = absurd (omega arith)
