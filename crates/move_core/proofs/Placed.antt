use Rattle.std.proofs.Common.{◌≡◌, ℕ, ◌+◌, ◌-◌, ◌<◌, ◌≤◌, ◌∙◌, sym, ap, subst, refl, arith, List, [], ◌∷◌, ◌++◌, length, drop, get_or, Bool, true, false, Contains, Option, Some, None, IfSome, IfNone, is_some}
use Rattle.std.proofs.lemmas.List.{get_or_default, append_assoc, drop_more}
use Rattle.std.proofs.lemmas.List.Folds.{Any-from_list_any, list_any_at}
use Rattle.plan_core.specs.declared.touch.Touch.{Touch}
use Rattle.plan_core.specs.Plan.{StandsAt, IsPlaced, route_at}
use Rattle.plan_core.specs.Among.{is_among}
use Rattle.move_core.specs.Moves.{is_placed}
use Rattle.move_core.proofs.PlanLaws.{PlanLaws}
use Rattle.move_core.specs.Touched.{touches}

-- the test over all routes says whether a customer stands on some route
pub placed_from_stands : PlanLaws → (routes : List (List ℕ)) (c v p : ℕ) → StandsAt routes c v p → is_placed routes c ≡ true
placed_from_stands law routes c v p s =
    let low : 1 ≤ v = s.low in
    let high : v ≤ length routes = s.high in
    list_any_at (λ r. is_among c r) routes (v - 1) [] (omega arith) ((law.among c (route_at routes v)).1 (law.places.among routes c v p s))

pub stands_from_placed : PlanLaws → (routes : List (List ℕ)) (c : ℕ) → is_placed routes c ≡ true → IsPlaced routes c
stands_from_placed law routes c t =
    let some = Any-from_list_any (λ r. is_among c r) routes t in
    let k = some.0 in
    let inside : k < length routes = some.2 in
    let back : k + 1 - 1 ≡ k = omega arith in
    let read : get_or routes k [] ≡ some.1 = get_or_default routes k [] some.1 some.2 ∙ some.3 in
    let holds : Contains (route_at routes (k + 1)) c =
    subst (λ (n : ℕ). Contains (get_or routes n []) c) (sym back) (subst (λ (r : List ℕ). Contains r c) (sym read) ((law.among c some.1).0 some.4)) in
    (k + 1, law.places.somewhere routes c (k + 1) (omega arith) (omega arith) holds)

pub not_placed : PlanLaws → (routes : List (List ℕ)) (c : ℕ) → ¬ IsPlaced routes c → is_placed routes c ≡ false
not_placed law routes c out = split (is_placed routes c) refl
  where
    split : (b : Bool) → is_placed routes c ≡ b → is_placed routes c ≡ false
    split true e = absurd (out (stands_from_placed law routes c e))
    split false e = e

-- knowing where a customer stands, if anywhere, decides whether it is placed
pub placed_by_place : PlanLaws → (routes : List (List ℕ)) (c : ℕ) (o : Option (ℕ × ℕ)) → IfSome o (λ at. StandsAt routes c at.0 at.1) → IfNone o (¬ IsPlaced routes c)
    → is_some o ≡ is_placed routes c
placed_by_place law routes c None there nowhere = sym (not_placed law routes c nowhere)
placed_by_place law routes c (Some at) there nowhere = sym (placed_from_stands law routes c at.0 at.1 there)

-- one more touch
pub touches_more : (before : List Touch) (v p i : ℕ) (cs : List ℕ) (all : List Touch) → i < length cs → before ++ touches v p (drop i cs) ≡ all
    → before ++ (record { vehicle = v; place = p; customer = get_or cs i 0 }) ∷ [] ++ touches v (p + 1) (drop (i + 1) cs) ≡ all
touches_more before v p i cs all h e =
    append_assoc before ((record { vehicle = v; place = p; customer = get_or cs i 0 }) ∷ []) (touches v (p + 1) (drop (i + 1) cs))
    ∙ ap (λ (xs : List ℕ). before ++ touches v p xs) (sym (drop_more cs i 0 h)) ∙ e
