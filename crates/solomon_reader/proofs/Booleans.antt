-- Tests of numbers, and tests joined by "and" and "or".
use Rattle.std.proofs.Common.{◌≡◌, ℕ, suc, ◌≤◌, ◌<◌, Bool, true, false, eqb, refl, arith, ◌⊎◌, inl, inr}
use Rattle.std.specs.Prelude.{◌&&◌, ◌||◌, nat_lt, nat_le}
use Rattle.std.proofs.lemmas.Bool.Decides.{nat_tests}

pub both : (a b : Bool) → (a && b) ≡ true → (a ≡ true) × (b ≡ true)
both true true e = (refl, refl)
both true false e = absurd cc
both false b e = absurd cc

pub true_or_false : (b : Bool) → (b ≡ true) ⊎ (b ≡ false)
true_or_false true = inl refl
true_or_false false = inr refl

pub eq_from : (m n : ℕ) → eqb m n ≡ true → m ≡ n
eq_from m n e = grind (arith, nat_tests)

pub same_again : (n : ℕ) → eqb n n ≡ true
same_again n = grind (arith, nat_tests)

pub some_of : (n : ℕ) → eqb n 0 ≡ false → nat_lt 0 n ≡ true
some_of n e = grind (arith, nat_tests)

pub least_of : (n : ℕ) → eqb n 0 ≡ false → nat_le 1 n ≡ true
least_of n e = grind (arith, nat_tests)

pub most_of : (n m : ℕ) → n ≤ m → nat_le n m ≡ true
most_of n m h = grind (arith, nat_tests)

pub le_from : (n m : ℕ) → nat_le n m ≡ true → n ≤ m
le_from n m e = grind (arith, nat_tests)

pub lt_from : (n m : ℕ) → nat_lt n m ≡ true → n < m
lt_from n m e = grind (arith, nat_tests)

pub lt_test : (n m : ℕ) → n < m → nat_lt n m ≡ true
lt_test n m h = grind (arith, nat_tests)

-- where no row comes before it, the demand is 0
pub depot_from : (count demand : ℕ) → (nat_lt 0 count || eqb demand 0) ≡ true → count ≡ 0 → demand ≡ 0
depot_from count demand e z = grind (arith, nat_tests)

pub depot_test : (count demand : ℕ) → (count ≡ 0 → demand ≡ 0) → (nat_lt 0 count || eqb demand 0) ≡ true
depot_test count demand h = grind (arith, nat_tests)

pub not_two : (k : ℕ) → eqb (suc (suc (suc k))) 2 ≡ false
not_two k = grind (arith, nat_tests)

pub not_seven : (k : ℕ) → eqb (suc (suc (suc (suc (suc (suc (suc (suc k)))))))) 7 ≡ false
not_seven k = grind (arith, nat_tests)
