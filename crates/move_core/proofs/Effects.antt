use Rattle.std.proofs.Common.{◌≡◌, ◌≢◌, ℕ, zero, suc, ◌≤◌, ◌⊎◌, sym, ap, subst, refl, arith, inl, inr, List, [], ◌∷◌, length, slice_get, Some, None, Bool, true, false, ◌==◌, if◌then◌else◌}
use Rattle.std.proofs.lemmas.Bool.{cases_eq, eq-eqb, ne_eqb}
use Rattle.plan_core.specs.Plan.{Changes, IsNamed, AreApart, AreChanges, route_at, with_routes}
use Rattle.plan_core.specs.Laws.{RoutesAreReplaced}
use Rattle.move_core.specs.declared.moves.Move.{Move}
use Rattle.move_core.specs.declared.moves.Move.TheVariants.{Insert, Remove, Shift, Swap, Reverse, Cross}
use Rattle.move_core.specs.Moves.{is_possible, changes_by, effect}
use Rattle.move_core.proofs.Facts.{can_insert, can_remove, can_shift, can_swap, can_reverse, can_cross}

if_some : (b : Bool) (x y : Changes) → (if b then Some x else None) ≡ Some y → (b ≡ true) × (x ≡ y)
if_some true x y e = (refl, cc)
if_some false x y e = absurd cc

-- a move with an effect is possible, and the effect is its new routes
pub possible_from_effect : (n : ℕ) (routes : List (List ℕ)) (mv : Move) (changes : Changes) → effect n routes mv ≡ Some changes
    → (is_possible n routes mv ≡ true) × (changes_by routes mv ≡ changes)
possible_from_effect n routes mv changes e = if_some (is_possible n routes mv) (changes_by routes mv) changes e

-- what holds of each new route
abbrev pub EachChange : (ℕ → List ℕ → Type 0) → Changes → Type 0
EachChange Q [] = Unit {0}
EachChange Q (c ∷ cs) = Q c.0 c.1 × EachChange Q cs

pub each_at : (Q : ℕ → List ℕ → Type 0) (changes : Changes) (k : ℕ) (c : ℕ × List ℕ) → EachChange Q changes → slice_get changes k ≡ Some c → Q c.0 c.1
each_at Q [] k c each e = absurd cc
each_at Q (d ∷ ds) zero c each e = let same : d ≡ c = cc in subst (λ (x : ℕ × List ℕ). Q x.0 x.1) same each.0
each_at Q (d ∷ ds) (suc k) c each e = each_at Q ds k c each.1 e

-- a vehicle is named at some place, or nowhere
pub named_cases : (changes : Changes) (v : ℕ) → ((k : ℕ) × ((r : List ℕ) × (slice_get changes k ≡ Some (v, r)))) ⊎ (¬ IsNamed changes v)
named_cases [] v = inr (λ h. h)
named_cases (c ∷ cs) v = split (cases_eq v c.0) (named_cases cs v)
  where
    neither : (w : ℕ) → (v ≡ w → ⊥) → ¬ IsNamed cs v → ¬ ((v ≡ w) ⊎ IsNamed cs v)
    neither w o out (inl e) = o e
    neither w o out (inr h) = out h

    split : (v ≡ c.0) ⊎ (v ≡ c.0 → ⊥) → ((k : ℕ) × ((r : List ℕ) × (slice_get cs k ≡ Some (v, r)))) ⊎ (¬ IsNamed cs v)
        → ((k : ℕ) × ((r : List ℕ) × (slice_get (c ∷ cs) k ≡ Some (v, r)))) ⊎ (¬ IsNamed (c ∷ cs) v)
    split (inl e) rest = inl (zero, (c.1, ap (λ (w : ℕ). let x : ℕ × List ℕ = (w, c.1) in Some x) (sym e)))
    split (inr o) (inl (k, (r, e))) = inl (suc k, (r, e))
    split (inr o) (inr out) = inr (neither c.0 o out)

-- what holds of each new route and of each old one holds of every vehicle's route afterwards
pub each_vehicle : RoutesAreReplaced → (Q : ℕ → List ℕ → Type 0) (changes : Changes) (routes : List (List ℕ)) (v : ℕ) → AreApart (length routes) changes → 1 ≤ v
    → EachChange Q changes → Q v (route_at routes v) → Q v (route_at (with_routes changes routes) v)
each_vehicle law Q changes routes v apart low each old = split (named_cases changes v)
  where
    split : ((k : ℕ) × ((r : List ℕ) × (slice_get changes k ≡ Some (v, r)))) ⊎ (¬ IsNamed changes v) → Q v (route_at (with_routes changes routes) v)
    split (inl (k, (r, e))) = subst (λ (x : List ℕ). Q v x) (sym (law.named changes routes k (v, r) apart e)) (each_at Q changes k (v, r) each e)
    split (inr out) = subst (λ (x : List ℕ). Q v x) (sym (law.others changes routes v apart low out)) old

-- a fact about the new routes of a Shift or a Swap, by whether it names one vehicle or two
pub by_vehicles : (P : Changes → Type 0) (v w : ℕ) (one two : Changes) → (v ≡ w → P one) → (v ≢ w → P two) → P (if v == w then one else two)
by_vehicles P v w one two same other = split (cases_eq v w)
  where
    split : (v ≡ w) ⊎ (v ≡ w → ⊥) → P (if v == w then one else two)
    split (inl e) = rw (eq-eqb v w e) (same e)
    split (inr o) = rw (ne_eqb v w o) (other o)

alone : (n v : ℕ) (r : List ℕ) → 1 ≤ v → v ≤ n → AreChanges n ((v, r) ∷ [])
alone n v r low high = record { some = omega arith; few = omega arith; apart = (low, high, (λ h. h), tt) }

both : (n v w : ℕ) (r q : List ℕ) → 1 ≤ v → v ≤ n → 1 ≤ w → w ≤ n → v ≢ w → AreChanges n ((v, r) ∷ (w, q) ∷ [])
both n v w r q low high here top o = record { some = omega arith; few = omega arith; apart = (low, high, only, (here, top, (λ h. h), tt)) }
  where
    only : ¬ ((v ≡ w) ⊎ ⊥)
    only (inl e) = o e
    only (inr h) = h

-- the new routes are for one or two vehicles of the fleet, each once
pub changes_apart : (n : ℕ) (routes : List (List ℕ)) (mv : Move) → is_possible n routes mv ≡ true → AreChanges (length routes) (changes_by routes mv)
changes_apart n routes (Insert c v p) t = let f = can_insert n routes c v p t in alone (length routes) v _ f.vehicle.low f.vehicle.high
changes_apart n routes (Remove v p) t = let f = can_remove n routes v p t in alone (length routes) v _ f.vehicle.low f.vehicle.high
changes_apart n routes (Shift v p m to at) t =
    let f = can_shift n routes v p m to at t in
    by_vehicles (λ cs. AreChanges (length routes) cs) v to _ _
    (λ e. alone (length routes) v _ f.from.vehicle.low f.from.vehicle.high)
    (λ o. both (length routes) v to _ _ f.from.vehicle.low f.from.vehicle.high f.onto.vehicle.low f.onto.vehicle.high o)
changes_apart n routes (Swap v p w q) t =
    let f = can_swap n routes v p w q t in
    by_vehicles (λ cs. AreChanges (length routes) cs) v w _ _
    (λ e. alone (length routes) v _ f.vehicle.low f.vehicle.high)
    (λ o. both (length routes) v w _ _ f.vehicle.low f.vehicle.high f.other.low f.other.high o)
changes_apart n routes (Reverse v i j) t = let f = can_reverse n routes v i j t in alone (length routes) v _ f.vehicle.low f.vehicle.high
changes_apart n routes (Cross v k w l) t =
    let f = can_cross n routes v k w l t in both (length routes) v w _ _ f.vehicle.low f.vehicle.high f.other.low f.other.high f.apart
