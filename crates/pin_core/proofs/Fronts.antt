use Rattle.std.proofs.Common.{◌≡◌, ◌≢◌, ℕ, zero, suc, ◌-◌, ◌≤◌, ◌⊎◌, ◌↔◌, ◌∙◌, sym, ap, subst, arith, inl, inr, List, [], ◌∷◌, length, take, min, slice_get, Some}
use Rattle.std.proofs.lemmas.Bool.{cases_eq}
use Rattle.std.proofs.lemmas.List.{length-take, length-take-le, get_or-set_same, get_or-set_other}
use Rattle.plan_core.specs.Plan.{Changes, IsNamed, AreApart, route_at, with_routes}
use Rattle.plan_core.specs.Commits.{named_vehicles}
use Rattle.pin_core.specs.Pins.{PinState, IsFrontKept, AreFreezesKept, DoFrontsFit, front_of, with_front}
use Rattle.pin_core.proofs.Standing.{OthersLaw, named_cases}

-- where all named vehicles keep their fronts, all vehicles do
pub freezes_from_named : OthersLaw → (s : PinState) (changes : Changes) (routes : List (List ℕ)) → AreApart (length routes) changes
    → ((j v : ℕ) → slice_get (named_vehicles changes) j ≡ Some v → IsFrontKept s routes (with_routes changes routes) v)
    → AreFreezesKept s routes (with_routes changes routes)
freezes_from_named others s changes routes apart named v low high = split (named_cases changes v)
  where
    split : ((k : ℕ) × (slice_get (named_vehicles changes) k ≡ Some v)) ⊎ (¬ IsNamed changes v) → IsFrontKept s routes (with_routes changes routes) v
    split (inl (k, e)) = named k v e
    split (inr out) = ap (λ (r : List ℕ). take (front_of s v) r) (others changes routes v apart low out)

-- a frozen length that is within a route is within each route with the same frozen front
pub fits_again : (s : PinState) (routes others : List (List ℕ)) → length others ≡ length routes → AreFreezesKept s routes others → DoFrontsFit s routes → DoFrontsFit s others
fits_again s routes others long kept fits v low high =
    let top : v ≤ length routes = omega arith in
    let fit : front_of s v ≤ length (route_at routes v) = fits v low top in
    let same : length (take (front_of s v) (route_at others v)) ≡ length (take (front_of s v) (route_at routes v)) = ap length (kept v low top) in
    let one : length (take (front_of s v) (route_at others v)) ≡ min (front_of s v) (length (route_at others v)) = length-take (front_of s v) (route_at others v) in
    let two : length (take (front_of s v) (route_at routes v)) ≡ front_of s v = length-take-le (front_of s v) (route_at routes v) fit in
    omega arith

-- a named vehicle keeps its front exactly where its new route begins with it
pub front_from_new : (s : PinState) (routes others : List (List ℕ)) (v : ℕ) (r : List ℕ) → route_at others v ≡ r
    → take (front_of s v) r ≡ take (front_of s v) (route_at routes v) → IsFrontKept s routes others v
front_from_new s routes others v r own e = ap (λ (xs : List ℕ). take (front_of s v) xs) own ∙ e

pub new_from_front : (s : PinState) (routes others : List (List ℕ)) (v : ℕ) (r : List ℕ) → route_at others v ≡ r
    → IsFrontKept s routes others v → take (front_of s v) r ≡ take (front_of s v) (route_at routes v)
new_from_front s routes others v r own e = ap (λ (xs : List ℕ). take (front_of s v) xs) (sym own) ∙ e

-- a named vehicle is one of the fleet, so where all freezes are kept its front is
pub kept_named : (s : PinState) (routes others : List (List ℕ)) (changes : Changes) (k v : ℕ) → AreApart (length routes) changes
    → slice_get (named_vehicles changes) k ≡ Some v → AreFreezesKept s routes others → IsFrontKept s routes others v
kept_named s routes others changes k v apart e kept = let at = fleet changes k v apart e in kept v at.0 at.1
  where
    fleet : (changes : Changes) (k v : ℕ) → AreApart (length routes) changes → slice_get (named_vehicles changes) k ≡ Some v → (1 ≤ v) × (v ≤ length routes)
    fleet [] k v apart e = absurd cc
    fleet (c ∷ cs) zero v apart e =
        let same : c.0 ≡ v = cc in
        subst (λ (n : ℕ). (1 ≤ n) × (n ≤ length routes)) same (apart.0, apart.1)
    fleet (c ∷ cs) (suc k) v apart e = fleet cs k v apart.3 e

-- a frozen length within its route
pub frozen_within : (s : PinState) (routes : List (List ℕ)) (v f : ℕ) → DoFrontsFit s routes → 1 ≤ v → v ≤ length s.fronts → f ≤ length (route_at routes v)
    → DoFrontsFit (with_front v f s) routes
frozen_within s routes v f fits low high fit w here top = split (cases_eq w v)
  where
    split : (w ≡ v) ⊎ (w ≡ v → ⊥) → front_of (with_front v f s) w ≤ length (route_at routes w)
    split (inl e) =
        let own : front_of (with_front v f s) v ≡ f = get_or-set_same s.fronts (v - 1) f 0 (omega arith) in
        subst (λ (u : ℕ). front_of (with_front v f s) u ≤ length (route_at routes u)) (sym e) (subst (λ (n : ℕ). n ≤ length (route_at routes v)) (sym own) fit)
    split (inr o) =
        let away : w - 1 ≢ v - 1 = λ e. o (omega arith) in
        let same : front_of (with_front v f s) w ≡ front_of s w = get_or-set_other s.fronts (v - 1) (w - 1) f 0 away in
        subst (λ (n : ℕ). n ≤ length (route_at routes w)) (sym same) (fits w here top)

pub thawed_within : (s : PinState) (routes : List (List ℕ)) (v f : ℕ) → DoFrontsFit s routes → 1 ≤ v → v ≤ length s.fronts → v ≤ length routes → f ≤ front_of s v
    → DoFrontsFit (with_front v f s) routes
thawed_within s routes v f fits low high top less = let old = fits v low top in frozen_within s routes v f fits low high (omega arith)

-- the freezes are kept exactly where the named vehicles keep their fronts
pub freezes_named : OthersLaw → (s : PinState) (changes : Changes) (routes : List (List ℕ)) → AreApart (length routes) changes
    → AreFreezesKept s routes (with_routes changes routes) ↔ ((j v : ℕ) → slice_get (named_vehicles changes) j ≡ Some v → IsFrontKept s routes (with_routes changes routes) v)
freezes_named others s changes routes apart = (
  λ kept j v e. kept_named s routes (with_routes changes routes) changes j v apart e kept,
  λ named. freezes_from_named others s changes routes apart named,
)
