-- The entries of a written-out list are small where a test over them computes to true.
use Rattle.std.proofs.Common.{◌≡◌, ℕ, zero, suc, ◌≤◌, sym, subst, arith, true, nat_le, List, [], ◌∷◌}
use Rattle.std.specs.List.{list_all, All}
use Rattle.std.proofs.lemmas.Bool.{leb-true, and_parts}
use Rattle.limits.specs.declared.TheConstants.{LARGEST_ANSWER}

small : (xs : List ℕ) → list_all (λ x. nat_le x LARGEST_ANSWER) xs ≡ true → All (λ x. x ≤ LARGEST_ANSWER) xs
small [] e k d h = omega (arith, h)
small (x ∷ xs) e zero d h = leb-true x LARGEST_ANSWER (and_parts (nat_le x LARGEST_ANSWER) (list_all (λ y. nat_le y LARGEST_ANSWER) xs) e).0
small (x ∷ xs) e (suc k) d h = small xs (and_parts (nat_le x LARGEST_ANSWER) (list_all (λ y. nat_le y LARGEST_ANSWER) xs) e).1 k d (omega (arith, h))

pub small_as : (xs ys : List ℕ) → xs ≡ ys → list_all (λ x. nat_le x LARGEST_ANSWER) ys ≡ true → All (λ x. x ≤ LARGEST_ANSWER) xs
small_as xs ys same e = subst (All (λ x. x ≤ LARGEST_ANSWER)) (sym same) (small ys e)
