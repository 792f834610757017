-- Objects as numbers, and sets of them.
use Rattle.std.specs.Prelude.{◌≡◌, ℕ, zero, suc, ◌+◌, ◌-◌, ◌==◌, ◌&&◌, ◌||◌, nat_lt, nat_le, Bool, true, false, List, [], ◌∷◌, length}
use Rattle.std.proofs.Common.{sym, refl, ap, ap₂, ◌∙◌}
use Rattle.std.specs.List.{AllByRecursion}
use Rattle.role_hierarchy.specs.Roles.{with_role, without}
use Rattle.role_hierarchy.specs.Words.{IsWord, joined, parts, low_part, high_part}
use Rattle.permission_core.specs.declared.objects.Operation.{Operation}
use Rattle.permission_core.specs.declared.objects.Operation.TheVariants.{View, Move, Pin, Freeze, Admin, Audit, Override}
use Rattle.permission_core.specs.declared.objects.Object.{Object}
use Rattle.permission_core.specs.declared.objects.Object.TheVariants.{Board, Vehicle, Customer}
use Rattle.permission_core.specs.declared.objects.ObjectRange.{ObjectRange}
use Rattle.permission_core.specs.declared.objects.ObjectRange.TheVariants as range

-- thirty-two words
pub record AreWords (ws : List ℕ) : Type 0 where
  pub whole : length ws ≡ 32
  pub small : AllByRecursion IsWord ws

parts_of : (ws : List ℕ) → AllByRecursion IsWord ws → parts (length ws) (joined ws) ≡ ws
unfolding parts
parts_of [] small = refl
parts_of (w ∷ ws) small = ap₂ (λ x y. x ∷ y) (low_part (joined ws) w small.0) (ap (parts (length ws)) (high_part (joined ws) w small.0) ∙ parts_of ws small.1)

pub parts_whole : (ws : List ℕ) → AreWords ws → parts 32 (joined ws) ≡ ws
parts_whole ws are = ap (λ k. parts k (joined ws)) (sym are.whole) ∙ parts_of ws are.small

-- the place of an operation among the rows of a role
abbrev pub index_of : Operation → ℕ
index_of View = 0
index_of Move = 1
index_of Pin = 2
index_of Freeze = 3
index_of Admin = 4
index_of Audit = 5
index_of Override = 6

-- the number of an object; there are at most 1,000 vehicles and 1,000 customers
abbrev pub number_of : Object → ℕ
number_of Board = 0
number_of (Vehicle k) = k
number_of (Customer c) = 1000 + c

-- there is such an object among this many customers and vehicles
abbrev pub is_object : ℕ → ℕ → Object → Bool
is_object customers vehicles Board = true
is_object customers vehicles (Vehicle k) = nat_le 1 k && nat_le k vehicles
is_object customers vehicles (Customer c) = nat_le 1 c && nat_le c customers

-- no two objects among this many customers and vehicles have one number
abbrev pub HaveNumbersOfTheirOwn : ℕ → ℕ → Type 0
HaveNumbersOfTheirOwn customers vehicles =
    (one other : Object) → is_object customers vehicles one ≡ true → is_object customers vehicles other ≡ true → number_of one ≡ number_of other → one ≡ other

-- the set and the n objects from `first` on
unfoldable pub with_range : ℕ → ℕ → ℕ → ℕ
with_range set first zero = set
with_range set first (suc n) = with_role (with_range set first n) (first + n)

-- the set without the n objects from `first` on
unfoldable pub without_range : ℕ → ℕ → ℕ → ℕ
without_range set first zero = set
without_range set first (suc n) = without (without_range set first n) (first + n)

-- the number of the first object of a range, and how many objects it has
abbrev pub first_of : ObjectRange → ℕ
first_of range.Board = 0
first_of (range.Vehicles first last) = first
first_of (range.Customers first last) = 1000 + first

abbrev pub size_of : ObjectRange → ℕ
size_of range.Board = 1
size_of (range.Vehicles first last) = last + 1 - first
size_of (range.Customers first last) = last + 1 - first

-- the range of numbers is empty, begins at 0 or ends above the limit
abbrev pub is_bad_span : ℕ → ℕ → ℕ → Bool
is_bad_span limit first last = nat_lt last first || (first == 0 || nat_lt limit last)

abbrev pub is_bad_range : ℕ → ℕ → ObjectRange → Bool
is_bad_range customers vehicles range.Board = false
is_bad_range customers vehicles (range.Vehicles first last) = is_bad_span vehicles first last
is_bad_range customers vehicles (range.Customers first last) = is_bad_span customers first last
