use Rattle.std.proofs.Common.{◌≡◌, ℕ, zero, suc, ◌+◌, ◌-◌, ◌<◌, ◌≤◌, ◌⊎◌, ◌↔◌, ◌∙◌, sym, ap, subst, refl, arith, inl, inr, List, [], ◌∷◌, length, slice_get, get_or, Option, Some, true, nat_eq, Contains}
use Rattle.std.specs.List.{list_any}
use Rattle.std.proofs.lemmas.Bool.{eqb-true, eq-eqb, cases_eq}
use Rattle.std.proofs.lemmas.List.{get_or_default, length-map}
use Rattle.std.proofs.lemmas.List.Folds.{Any-from_list_any, list_any_at}
use Rattle.std.proofs.lemmas.Option.{slice_get_within, get_or_from_slice_get, slice_get-get_or, slice_get-map, slice_get_read}
use Rattle.std.specs.Option.{option_map}
use Rattle.plan_core.specs.Plan.{Changes, IsNamed, AreApart, route_at, with_routes}
use Rattle.plan_core.specs.Commits.{named_vehicles}
use Rattle.plan_core.specs.Drafts.{DraftState, drafted, routes_by}
use Rattle.pin_core.specs.Pins.{StandsOn}

-- the laws of new routes, as plans state them
abbrev pub CountLaw : Type 0
CountLaw = (changes : Changes) (routes : List (List ℕ)) → length (with_routes changes routes) ≡ length routes

abbrev pub OthersLaw : Type 0
OthersLaw = (changes : Changes) (routes : List (List ℕ)) (v : ℕ) → AreApart (length routes) changes → 1 ≤ v → ¬ IsNamed changes v
    → route_at (with_routes changes routes) v ≡ route_at routes v

abbrev pub NamedLaw : Type 0
NamedLaw = (changes : Changes) (routes : List (List ℕ)) (k : ℕ) (c : ℕ × List ℕ) → AreApart (length routes) changes → slice_get changes k ≡ Some c
    → route_at (with_routes changes routes) c.0 ≡ c.1

-- a named vehicle is one of the fleet
pub apart_at : (changes : Changes) (n k : ℕ) (c : ℕ × List ℕ) → AreApart n changes → slice_get changes k ≡ Some c → (1 ≤ c.0) × (c.0 ≤ n)
apart_at [] n k c apart e = absurd cc
apart_at (d ∷ ds) n zero c apart e =
    let same : d ≡ c = cc in
    subst (λ (x : ℕ × List ℕ). (1 ≤ x.0) × (x.0 ≤ n)) same (apart.0, apart.1)
apart_at (d ∷ ds) n (suc k) c apart e = apart_at ds n k c apart.3 e

-- a vehicle is named at some place, or nowhere
pub named_cases : (changes : Changes) (v : ℕ) → ((k : ℕ) × (slice_get (named_vehicles changes) k ≡ Some v)) ⊎ (¬ IsNamed changes v)
named_cases [] v = inr (λ h. h)
named_cases (c ∷ cs) v = split (cases_eq v c.0) (named_cases cs v)
  where
    neither : (v w : ℕ) (cs : Changes) → (v ≡ w → ⊥) → ¬ IsNamed cs v → ¬ ((v ≡ w) ⊎ IsNamed cs v)
    neither v w cs o out (inl e) = o e
    neither v w cs o out (inr h) = out h

    split : (v ≡ c.0) ⊎ (v ≡ c.0 → ⊥) → ((k : ℕ) × (slice_get (named_vehicles cs) k ≡ Some v)) ⊎ (¬ IsNamed cs v)
        → ((k : ℕ) × (slice_get (named_vehicles (c ∷ cs)) k ≡ Some v)) ⊎ (¬ IsNamed (c ∷ cs) v)
    split (inl e) rest = inl (zero, ap (λ (n : ℕ). Some n) (sym e))
    split (inr o) (inl (k, e)) = inl (suc k, e)
    split (inr o) (inr out) = inr (λ h. neither v c.0 cs o out h)

pub contains_from_stands : (routes : List (List ℕ)) (c v : ℕ) → StandsOn routes c v → Contains (route_at routes v) c
contains_from_stands routes c v (p, s) =
    (p - 1, slice_get_within (route_at routes v) (p - 1) c s.found, get_or_from_slice_get (route_at routes v) (p - 1) c c s.found)

pub stands_from_contains : (routes : List (List ℕ)) (c v : ℕ) → 1 ≤ v → v ≤ length routes → Contains (route_at routes v) c → StandsOn routes c v
stands_from_contains routes c v low high (k, h, e) =
    let back : k + 1 - 1 ≡ k = omega arith in (
      k + 1,
      record {
        low = low;
        high = high;
        place = omega arith;
        found = ap (λ (n : ℕ). slice_get (route_at routes v) n) back ∙ slice_get-get_or (route_at routes v) k c h ∙ ap (λ (n : ℕ). Some n) e;
      },
    )

-- a vehicle that keeps its route keeps its customers
pub stands_same : (routes others : List (List ℕ)) (c v : ℕ) → length others ≡ length routes → route_at others v ≡ route_at routes v → StandsOn routes c v → StandsOn others c v
stands_same routes others c v long same (p, s) =
    let high : v ≤ length routes = s.high in
    (p, record { low = s.low; high = omega arith; place = s.place; found = ap (λ (r : List ℕ). slice_get r (p - 1)) same ∙ s.found })

-- the test of a route says whether the route has a customer
pub contains_from_test : (c : ℕ) (xs : List ℕ) → list_any (λ w. nat_eq w c) xs ≡ true → Contains xs c
contains_from_test c xs h =
    let some = Any-from_list_any (λ w. nat_eq w c) xs h in
    let same : some.1 ≡ c = eqb-true some.1 c some.4 in
    (some.0, some.2, get_or_default xs some.0 c some.1 some.2 ∙ some.3 ∙ same)

pub test_from_contains : (c : ℕ) (xs : List ℕ) → Contains xs c → list_any (λ w. nat_eq w c) xs ≡ true
test_from_contains c xs (k, h, e) = list_any_at (λ w. nat_eq w c) xs k c h (eq-eqb (get_or xs k c) c e)

-- on a named vehicle a customer stands exactly where the new route has it
pub stands_on_new : CountLaw → NamedLaw → (changes : Changes) (routes : List (List ℕ)) (k c v : ℕ) (r : List ℕ) → AreApart (length routes) changes
    → slice_get changes k ≡ Some (v, r) → Contains r c ↔ StandsOn (with_routes changes routes) c v
stands_on_new count named changes routes k c v r apart e =
    let own : route_at (with_routes changes routes) v ≡ r = named changes routes k (v, r) apart e in
    let fleet = apart_at changes (length routes) k (v, r) apart e in
    let long = count changes routes in
    let top : v ≤ length (with_routes changes routes) = subst (λ (n : ℕ). v ≤ n) (sym long) fleet.1 in (
      λ h. stands_from_contains (with_routes changes routes) c v fleet.0 top (subst (λ (xs : List ℕ). Contains xs c) (sym own) h),
      λ s. subst (λ (xs : List ℕ). Contains xs c) own (contains_from_stands (with_routes changes routes) c v s),
    )

-- on any other vehicle it stands exactly where it did
pub stands_on_old : CountLaw → OthersLaw → (changes : Changes) (routes : List (List ℕ)) (c v : ℕ) → AreApart (length routes) changes
    → ¬ IsNamed changes v → StandsOn routes c v ↔ StandsOn (with_routes changes routes) c v
stands_on_old count others changes routes c v apart out = (
  λ s. stands_same routes (with_routes changes routes) c v (count changes routes) (others changes routes v apart s.1.low out) s,
  λ s. stands_same (with_routes changes routes) routes c v (sym (count changes routes)) (sym (others changes routes v apart s.1.low out)) s,
)

-- what holds of each element of a list before a place
abbrev pub AllBefore : {X : Type 0} → (X → Type 0) → List X → ℕ → Type 0
AllBefore {X} P xs i = (j : ℕ) (y : X) → j < i → slice_get xs j ≡ Some y → P y

pub before_more : {X : Type 0} (P : X → Type 0) (xs : List X) (i : ℕ) (x : X) → slice_get xs i ≡ Some x → P x → AllBefore P xs i → AllBefore P xs (i + 1)
before_more {X} P xs i x e p before j y h f = split (cases_eq j i)
  where
    split : (j ≡ i) ⊎ (j ≡ i → ⊥) → P y
    split (inl same) =
        let here : slice_get xs i ≡ Some y = subst (λ (n : ℕ). slice_get xs n ≡ Some y) same f in
        let both : Some x ≡ Some y = sym e ∙ here in
        let one : x ≡ y = cc in
        subst P one p
    split (inr o) = before j y (omega arith) f

pub before_all : {X : Type 0} (P : X → Type 0) (xs : List X) (i : ℕ) → length xs ≤ i → AllBefore P xs i → (j : ℕ) (y : X) → slice_get xs j ≡ Some y → P y
before_all P xs i h before j y e = let inside : j < length xs = slice_get_within xs j y e in before j y (omega arith) e

-- a vehicle that no new route is for is not named
pub not_drafted : {R : Type 0} (f : R → DraftState) (routes : List (List ℕ)) (new : List R) (v : ℕ) → ((k : ℕ) (r : R) → slice_get new k ≡ Some r → (f r).vehicle ≡ v → ⊥)
    → ¬ IsNamed (routes_by f routes new) v
not_drafted f routes [] v each h = h
not_drafted f routes (r ∷ rs) v each (inl e) = each zero r refl (sym e)
not_drafted f routes (r ∷ rs) v each (inr h) = not_drafted f routes rs v (λ k x. each (suc k) x) h

-- the new route that is read at a place
pub draft_read : {R : Type 0} (f : R → DraftState) (routes : List (List ℕ)) (new : List R) (i : ℕ) (r : R) → i < length new → r ≡ get_or new i r
    → slice_get (routes_by f routes new) i ≡ Some ((f r).vehicle, drafted routes (f r))
draft_read {R} f routes new i r h e =
    slice_get-map (λ (x : R). ((f x).vehicle, drafted routes (f x))) new i
    ∙ ap (λ (o : Option R). option_map (λ (x : R). ((f x).vehicle, drafted routes (f x))) o) (slice_get_read new (length new) i r refl h e)

-- and its vehicle
pub named_read : {R : Type 0} (f : R → DraftState) (routes : List (List ℕ)) (new : List R) (i : ℕ) (r : R) → i < length new → r ≡ get_or new i r
    → slice_get (named_vehicles (routes_by f routes new)) i ≡ Some (f r).vehicle
named_read {R} f routes new i r h e =
    slice_get-map (λ (c : ℕ × List ℕ). c.0) (routes_by f routes new) i
    ∙ ap (λ (o : Option (ℕ × List ℕ)). option_map (λ (c : ℕ × List ℕ). c.0) o) (draft_read f routes new i r h e)

pub length-named : {R : Type 0} (f : R → DraftState) (routes : List (List ℕ)) (new : List R) → length (named_vehicles (routes_by f routes new)) ≡ length new
length-named {R} f routes new =
    length-map (routes_by f routes new) (λ (c : ℕ × List ℕ). c.0)
    ∙ length-map new (λ (x : R). let one : ℕ × List ℕ = ((f x).vehicle, drafted routes (f x)) in one)
