use Rattle.std.proofs.Common.{◌≡◌, ◌≢◌, ℕ, zero, suc, ◌+◌, ◌-◌, ◌<◌, ◌≤◌, ◌↔◌, ◌⊎◌, sym, ap, subst, refl, arith, inl, inr, List, [], ◌∷◌, length, take, slice_get, Some, None, true, ◌==◌, if◌then◌else◌, All}
use Rattle.std.proofs.lemmas.Bool.{cases_eq, eq-eqb, ne_eqb}
use Rattle.std.specs.Option.{option_to_list}
use Rattle.plan_core.specs.declared.touch.Touch.{Touch}
use Rattle.plan_core.specs.Plan.{Changes, StandsAt, IsPlan, IsNamed, AreChanges, route_at, with_routes}
use Rattle.plan_core.specs.Commits.{named_vehicles}
use Rattle.plan_core.specs.Laws.{FrontsAreCommon}
use Rattle.plan_core.specs.Front.{common_front}
use Rattle.move_core.specs.declared.moves.Move.{Move}
use Rattle.move_core.specs.declared.moves.Move.TheVariants.{Insert, Remove, Shift, Swap, Reverse, Cross}
use Rattle.move_core.specs.Moves.{is_possible, changes_by, effect, named_by, stretch, without, with_stretch, with_customer, customer_at}
use Rattle.move_core.specs.Touched.{touched_by, untouched_of}
use Rattle.move_core.specs.Changed.{IsFirstChange, first_change}
use Rattle.move_core.specs.Laws.{MovesNameVehicles, MovesKeepPlans, MovesKeepTheUntouched, FrontsByFirstChange}
use Rattle.move_core.proofs.PlanLaws.{PlanLaws}
use Rattle.move_core.proofs.Facts.{can_cross}
use Rattle.move_core.proofs.Effects.{EachChange, possible_from_effect, each_at, changes_apart}
use Rattle.move_core.proofs.Untouched.{untouched_kept, stays_or_touched}
use Rattle.move_core.proofs.Plans.{plan_kept}
use Rattle.move_core.proofs.TouchedKnown.{touched_known}
use Rattle.move_core.proofs.FirstChange.{ChangesAt, each_changed, front_kept, changed_differs, common_before}

-- one vehicle or two are named
either : (v w : ℕ) (r s q : List ℕ) → named_vehicles (if v == w then (v, r) ∷ [] else (v, s) ∷ (w, q) ∷ []) ≡ v ∷ option_to_list (if v == w then None else Some w)
either v w r s q = split (cases_eq v w)
  where
    split : (v ≡ w) ⊎ (v ≡ w → ⊥) → named_vehicles (if v == w then (v, r) ∷ [] else (v, s) ∷ (w, q) ∷ []) ≡ v ∷ option_to_list (if v == w then None else Some w)
    split (inl e) = rw (eq-eqb v w e) refl
    split (inr o) = rw (ne_eqb v w o) refl

-- each law of the new routes, said of the effect
pub named_effect : (n : ℕ) (routes : List (List ℕ)) (mv : Move) (changes : Changes) → effect n routes mv ≡ Some changes → named_vehicles changes ≡ named_by mv
named_effect n routes mv changes e =
    let p = possible_from_effect n routes mv changes e in
    subst (λ (cs : Changes). named_vehicles cs ≡ named_by mv) p.1 (named n routes mv p.0)
  where
    named : (n : ℕ) (routes : List (List ℕ)) (mv : Move) → is_possible n routes mv ≡ true → named_vehicles (changes_by routes mv) ≡ named_by mv
    named n routes (Insert c v p) t = refl
    named n routes (Remove v p) t = refl
    named n routes (Shift v p m to at) t =
        either v to (with_stretch (without (route_at routes v) p m) at (stretch (route_at routes v) p m)) (without (route_at routes v) p m) (with_stretch (route_at routes to) at (stretch (route_at routes v) p m))
    named n routes (Swap v p w q) t =
        either v w (with_customer (with_customer (route_at routes v) p (customer_at (route_at routes v) q)) q (customer_at (route_at routes v) p))
        (with_customer (route_at routes v) p (customer_at (route_at routes w) q)) (with_customer (route_at routes w) q (customer_at (route_at routes v) p))
    named n routes (Reverse v i j) t = refl
    named n routes (Cross v k w l) t = rw (ne_eqb v w (can_cross n routes v k w l t).apart) refl

pub changes_effect : (n : ℕ) (routes : List (List ℕ)) (mv : Move) (changes : Changes) → effect n routes mv ≡ Some changes → AreChanges (length routes) changes
changes_effect n routes mv changes e =
    let p = possible_from_effect n routes mv changes e in
    subst (λ (cs : Changes). AreChanges (length routes) cs) p.1 (changes_apart n routes mv p.0)

pub plan_effect : PlanLaws → (n : ℕ) (routes : List (List ℕ)) (mv : Move) (changes : Changes) → IsPlan n routes → effect n routes mv ≡ Some changes → IsPlan n (with_routes changes routes)
plan_effect law n routes mv changes plan e =
    let p = possible_from_effect n routes mv changes e in
    subst (λ (cs : Changes). IsPlan n (with_routes cs routes)) p.1 (plan_kept law n routes mv plan p.0)

pub known_effect : (n : ℕ) (routes : List (List ℕ)) (mv : Move) (changes : Changes) → IsPlan n routes → effect n routes mv ≡ Some changes
    → All (λ t. (1 ≤ t.customer) × (t.customer ≤ n)) (touched_by routes mv)
known_effect n routes mv changes plan e = touched_known n routes mv plan (possible_from_effect n routes mv changes e).0

pub order_effect : PlanLaws → (n : ℕ) (routes : List (List ℕ)) (mv : Move) (changes : Changes) (v : ℕ) → effect n routes mv ≡ Some changes → 1 ≤ v
    → untouched_of routes mv (route_at (with_routes changes routes) v) ≡ untouched_of routes mv (route_at routes v)
order_effect law n routes mv changes v e low =
    let p = possible_from_effect n routes mv changes e in
    subst (λ (cs : Changes). untouched_of routes mv (route_at (with_routes cs routes) v) ≡ untouched_of routes mv (route_at routes v)) p.1 (untouched_kept law n routes mv v p.0 low)

pub stay_effect : PlanLaws → (n : ℕ) (routes : List (List ℕ)) (mv : Move) (changes : Changes) (c v p : ℕ) → effect n routes mv ≡ Some changes → StandsAt routes c v p
    → ((q : ℕ) × StandsAt (with_routes changes routes) c v q) ⊎ ((k : ℕ) × ((t : Touch) × (slice_get (touched_by routes mv) k ≡ Some t) × (t.customer ≡ c)))
stay_effect law n routes mv changes c v p e s =
    let f = possible_from_effect n routes mv changes e in
    subst (λ (cs : Changes). ((q : ℕ) × StandsAt (with_routes cs routes) c v q) ⊎ ((k : ℕ) × ((t : Touch) × (slice_get (touched_by routes mv) k ≡ Some t) × (t.customer ≡ c)))) f.1
    (stays_or_touched law n routes mv c v p f.0 s)

-- a named vehicle is named at some place
named_at : (changes : Changes) (v : ℕ) → IsNamed changes v → (k : ℕ) × ((r : List ℕ) × (slice_get changes k ≡ Some (v, r)))
named_at [] v h = absurd h
named_at (c ∷ cs) v (inl e) = (zero, (c.1, ap (λ (w : ℕ). let x : ℕ × List ℕ = (w, c.1) in Some x) (sym e)))
named_at (c ∷ cs) v (inr h) = let rest = named_at cs v h in (suc rest.0, rest.1)

pub place_effect : PlanLaws → (n : ℕ) (routes : List (List ℕ)) (mv : Move) (changes : Changes) (v : ℕ) → IsPlan n routes → effect n routes mv ≡ Some changes → IsNamed changes v
    → IsFirstChange (route_at routes v) (route_at (with_routes changes routes) v) (first_change mv v)
place_effect law n routes mv changes v plan e h =
    let p = possible_from_effect n routes mv changes e in
    let apart = (changes_effect n routes mv changes e).apart in
    let each : EachChange (ChangesAt routes mv) changes = subst (λ (cs : Changes). EachChange (ChangesAt routes mv) cs) p.1 (each_changed law n routes mv plan p.0) in
    let at = named_at changes v h in
    subst (λ (r : List ℕ). IsFirstChange (route_at routes v) r (first_change mv v)) (sym (law.replaced.named changes routes at.0 (v, at.1.0) apart at.1.1))
    (each_at (ChangesAt routes mv) changes at.0 (v, at.1.0) each at.1.1)

pub differ_effect : PlanLaws → (n : ℕ) (routes : List (List ℕ)) (mv : Move) (changes : Changes) (v : ℕ) → IsPlan n routes → effect n routes mv ≡ Some changes → IsNamed changes v
    → route_at (with_routes changes routes) v ≢ route_at routes v
differ_effect law n routes mv changes v plan e h = changed_differs (route_at routes v) (route_at (with_routes changes routes) v) (first_change mv v) (place_effect law n routes mv changes v plan e h)

pub others_effect : PlanLaws → (n : ℕ) (routes : List (List ℕ)) (mv : Move) (changes : Changes) (v : ℕ) → effect n routes mv ≡ Some changes → 1 ≤ v → ¬ IsNamed changes v
    → route_at (with_routes changes routes) v ≡ route_at routes v
others_effect law n routes mv changes v e low out = law.replaced.others changes routes v (changes_effect n routes mv changes e).apart low out

pub front_effect : PlanLaws → (n : ℕ) (routes : List (List ℕ)) (mv : Move) (changes : Changes) (v f : ℕ) → IsPlan n routes → effect n routes mv ≡ Some changes → IsNamed changes v
    → (take f (route_at (with_routes changes routes) v) ≡ take f (route_at routes v)) ↔ (f < first_change mv v)
front_effect law n routes mv changes v f plan e h =
    front_kept (route_at routes v) (route_at (with_routes changes routes) v) (first_change mv v) f (place_effect law n routes mv changes v plan e h)

pub common_effect : PlanLaws → FrontsAreCommon → (n : ℕ) (routes : List (List ℕ)) (mv : Move) (changes : Changes) (v : ℕ) → IsPlan n routes → effect n routes mv ≡ Some changes
    → IsNamed changes v → common_front (route_at routes v) (route_at (with_routes changes routes) v) + 1 ≡ first_change mv v
common_effect law fronts n routes mv changes v plan e h =
    let x = place_effect law n routes mv changes v plan e h in
    let low : 1 ≤ first_change mv v = x.low in
    let is = fronts.only (route_at routes v) (route_at (with_routes changes routes) v) (first_change mv v - 1)
    (common_before (route_at routes v) (route_at (with_routes changes routes) v) (first_change mv v) x) in
    omega arith

-- the laws
pub by_vehicles_named : MovesNameVehicles
by_vehicles_named = record { named = named_effect; changes = changes_effect }

pub by_plans_kept : PlanLaws → MovesKeepPlans
by_plans_kept law = record { plan = plan_effect law; known = known_effect }

pub by_untouched_kept : PlanLaws → MovesKeepTheUntouched
by_untouched_kept law = record { order = order_effect law; stay = stay_effect law }

pub by_first_change : PlanLaws → FrontsAreCommon → FrontsByFirstChange
by_first_change law fronts = record {
  place = place_effect law;
  differ = differ_effect law;
  others = others_effect law;
  front = front_effect law;
  common = common_effect law fronts;
}
