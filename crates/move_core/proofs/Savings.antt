-- A move saves the same in two plans that agree on the vehicles that it names.
use Rattle.std.proofs.Common.{◌≡◌, ℕ, ◌+◌, ◌==◌, Bool, true, false, List, [], ◌∷◌, All, Some, None, refl, ap, sym, subst, ◌∙◌, arith, if◌then◌else◌}
use Rattle.std.proofs.lemmas.Bool.Decides.{nat_tests}
use Rattle.std.proofs.lemmas.List.Elements.{All-head, All-tail}
use Rattle.std.proofs.lemmas.List.Sums.{sum_by-cons}
use Rattle.std.specs.Option.{option_to_list}
use Rattle.callback_store.specs.Tables.{Table}
use Rattle.plan_core.specs.Cost.{cost_of, route_cost}
use Rattle.plan_core.specs.Plan.{Changes, route_at, with_routes}
use Rattle.plan_core.specs.Commits.{named_vehicles}
use Rattle.plan_core.specs.Laws.{CostsDifferByNamed, cost_before, cost_after}
use Rattle.move_core.specs.declared.moves.Move.{Move}
use Rattle.move_core.specs.declared.moves.Move.TheVariants.{Insert, Remove, Shift, Swap, Reverse, Cross}
use Rattle.move_core.specs.Moves.{named_by, changes_by, effect, with_stretch, without, stretch, with_customer, customer_at, reversed_within, crossed}
use Rattle.move_core.specs.Laws.{MovesNameVehicles, AgreeOnNamed, MovesSaveTheSame}

abbrev Agrees : List (List ℕ) → List (List ℕ) → ℕ → Type 0
Agrees routes later v = route_at later v ≡ route_at routes v

second : (routes later : List (List ℕ)) (v w : ℕ) (b : Bool) → (v == w) ≡ b → Agrees routes later v → All (Agrees routes later) (option_to_list (if b then None else Some w)) → Agrees routes later w
second routes later v w true is one rest = subst (Agrees routes later) (grind (arith, nat_tests)) one
second routes later v w false is one rest = All-head (Agrees routes later) w [] rest

both : (routes later : List (List ℕ)) (v w : ℕ) → All (Agrees routes later) (v ∷ option_to_list (if v == w then None else Some w)) → Agrees routes later v × Agrees routes later w
both routes later v w all =
    let one = All-head (Agrees routes later) v (option_to_list (if v == w then None else Some w)) all in
    (one, second routes later v w (v == w) refl one (All-tail (Agrees routes later) v (option_to_list (if v == w then None else Some w)) all))

-- the new routes are the same
changes_same : (routes later : List (List ℕ)) (mv : Move) → AgreeOnNamed mv routes later → changes_by later mv ≡ changes_by routes mv
changes_same routes later (Insert customer vehicle place) all =
    let p = All-head (Agrees routes later) vehicle [] all in
    λ i. (vehicle, with_stretch (p i) place (customer ∷ [])) ∷ []
changes_same routes later (Remove vehicle place) all =
    let p = All-head (Agrees routes later) vehicle [] all in
    λ i. (vehicle, without (p i) place 1) ∷ []
changes_same routes later (Shift vehicle place n to at) all =
    let p = both routes later vehicle to all in
    λ i. if vehicle == to
    then (vehicle, with_stretch (without (p.0 i) place n) at (stretch (p.0 i) place n)) ∷ []
    else (vehicle, without (p.0 i) place n) ∷ (to, with_stretch (p.1 i) at (stretch (p.0 i) place n)) ∷ []
changes_same routes later (Swap vehicle place other at) all =
    let p = both routes later vehicle other all in
    λ i. if vehicle == other
    then (vehicle, with_customer (with_customer (p.0 i) place (customer_at (p.0 i) at)) at (customer_at (p.0 i) place)) ∷ []
    else (vehicle, with_customer (p.0 i) place (customer_at (p.1 i) at)) ∷ (other, with_customer (p.1 i) at (customer_at (p.0 i) place)) ∷ []
changes_same routes later (Reverse vehicle first last) all =
    let p = All-head (Agrees routes later) vehicle [] all in
    λ i. (vehicle, reversed_within (p i) first last) ∷ []
changes_same routes later (Cross vehicle keep other keep_other) all =
    let p = both routes later vehicle other all in
    λ i. (vehicle, crossed (p.0 i) keep (p.1 i) keep_other) ∷ (other, crossed (p.1 i) keep_other (p.0 i) keep) ∷ []

-- and so is what the named routes cost before
before_same : (t : Table) (routes later : List (List ℕ)) (changes : Changes) → All (Agrees routes later) (named_vehicles changes) → cost_before t changes later ≡ cost_before t changes routes
before_same t routes later [] all = refl
before_same t routes later (c ∷ changes) all =
    let one : route_cost t (route_at later c.0) ≡ route_cost t (route_at routes c.0) = ap (route_cost t) (All-head (Agrees routes later) c.0 (named_vehicles changes) all) in
    let rest = before_same t routes later changes (All-tail (Agrees routes later) c.0 (named_vehicles changes) all) in
    sum_by-cons (λ x. route_cost t (route_at later x.0)) c changes ∙ ((λ i. one i + rest i) ∙ sym (sum_by-cons (λ x. route_cost t (route_at routes x.0)) c changes))

module _ (differ : CostsDifferByNamed) (names : MovesNameVehicles) where
  costs_same : (t : Table) (n : ℕ) (routes later : List (List ℕ)) (mv : Move) → AgreeOnNamed mv routes later
      → effect n routes mv ≡ Some (changes_by routes mv) → effect n later mv ≡ Some (changes_by later mv)
      → cost_of t (with_routes (changes_by later mv) later) + cost_of t routes ≡ cost_of t (with_routes (changes_by routes mv) routes) + cost_of t later
  costs_same t n routes later mv agree here there =
      let changes : Changes = changes_by routes mv in
      let same : changes_by later mv ≡ changes = changes_same routes later mv agree in
      let first = differ.all t changes routes (names.changes n routes mv changes here).apart in
      let second = differ.all t (changes_by later mv) later (names.changes n later mv (changes_by later mv) there).apart in
      let named : named_vehicles changes ≡ named_by mv = names.named n routes mv changes here in
      let before : cost_before t changes later ≡ cost_before t changes routes = before_same t routes later changes (subst (All (Agrees routes later)) (sym named) agree) in
      let before' : cost_before t (changes_by later mv) later ≡ cost_before t changes routes = ap (λ (cs : Changes). cost_before t cs later) same ∙ before in
      let after : cost_after t (changes_by later mv) ≡ cost_after t changes = ap (cost_after t) same in
      omega arith

  pub save_the_same : MovesSaveTheSame
  save_the_same = record {
    routes = changes_same;
    costs = costs_same;
    saved = λ t n routes later mv saving agree here there saved.
        let same = costs_same t n routes later mv agree here there in
        omega (arith, same, saved);
  }
