-- Two objects of an instance have two numbers.
use Rattle.std.proofs.Common.{◌≡◌, ℕ, ◌+◌, ◌≤◌, true, leb, ◌&&◌, refl, ap, sym, arith}
use Rattle.std.proofs.lemmas.Bool.{leb-true, and_parts}
use Rattle.permission_core.specs.declared.objects.Object.{Object}
use Rattle.permission_core.specs.declared.objects.Object.TheVariants.{Board, Vehicle, Customer}
use Rattle.permission_core.specs.Objects.{HaveNumbersOfTheirOwn}

-- what the test of a range tells
within : (n count : ℕ) → (leb 1 n && leb n count) ≡ true → (1 ≤ n) × (n ≤ count)
within n count h = let both = and_parts _ _ h in (leb-true 1 n both.0, leb-true n count both.1)

pub numbers_apart : (customers vehicles : ℕ) → vehicles ≤ 1000 → HaveNumbersOfTheirOwn customers vehicles
numbers_apart customers vehicles few Board Board one other same = refl
numbers_apart customers vehicles few Board (Vehicle k) one other same = absurd (omega (arith, (within k vehicles other).0, same))
numbers_apart customers vehicles few Board (Customer c) one other same = absurd (omega (arith, same))
numbers_apart customers vehicles few (Vehicle j) Board one other same = absurd (omega (arith, (within j vehicles one).0, same))
numbers_apart customers vehicles few (Vehicle j) (Vehicle k) one other same = ap Vehicle same
numbers_apart customers vehicles few (Vehicle j) (Customer c) one other same =
    absurd (omega (arith, (within j vehicles one).1, (within c customers other).0, same))
numbers_apart customers vehicles few (Customer b) Board one other same = absurd (omega (arith, same))
numbers_apart customers vehicles few (Customer b) (Vehicle k) one other same =
    absurd (omega (arith, (within k vehicles other).1, (within b customers one).0, same))
numbers_apart customers vehicles few (Customer b) (Customer c) one other same = let equal : b ≡ c = omega (arith, same) in ap Customer equal
