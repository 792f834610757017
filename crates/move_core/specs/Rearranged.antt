use Rattle.std.specs.Prelude.{◌≡◌, ℕ, ◌↔◌, ◌==◌, if◌then◌else◌, List, sum_by, Contains}
use Rattle.move_core.specs.declared.moves.Move.{Move}
use Rattle.move_core.specs.declared.moves.Move.TheVariants.{Insert, Remove, Shift, Swap, Reverse, Cross}

-- how often a customer stands on a route
abbrev pub count : ℕ → List ℕ → ℕ
count c xs = sum_by (λ x. if x == c then 1 else 0) xs

-- a route has each customer as often as another, and so has the same customers
pub record AreRearranged (old new : List ℕ) : Type 0 where
  pub often : (c : ℕ) → count c new ≡ count c old
  pub same : (c : ℕ) → Contains old c ↔ Contains new c

-- the kinds of moves that neither put a customer on the plan nor take one off
abbrev pub IsRearranging : Move → Type 0
IsRearranging (Insert customer vehicle place) = ⊥
IsRearranging (Remove vehicle place) = ⊥
IsRearranging (Shift vehicle place n to at) = Unit {0}
IsRearranging (Swap vehicle place other at) = Unit {0}
IsRearranging (Reverse vehicle first last) = Unit {0}
IsRearranging (Cross vehicle keep other keep_other) = Unit {0}
