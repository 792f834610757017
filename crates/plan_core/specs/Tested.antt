use Rattle.std.specs.Prelude.{ℕ, Bool, true, not, nat_le, ◌&&◌, List, [], ◌∷◌}
use Rattle.std.specs.List.{list_any}
use Rattle.plan_core.specs.Among.{is_among}

-- A test that a plan written out passes: each customer is 1 to n, and stands neither later on its route nor on a later route.
abbrev pub is_route : ℕ → List ℕ → List (List ℕ) → Bool
is_route n [] later = true
is_route n (c ∷ cs) later = nat_le 1 c && (nat_le c n && (not (is_among c cs) && (not (list_any (λ r. is_among c r) later) && is_route n cs later)))

abbrev pub is_plan : ℕ → List (List ℕ) → Bool
is_plan n [] = true
is_plan n (r ∷ rs) = is_route n r rs && is_plan n rs
