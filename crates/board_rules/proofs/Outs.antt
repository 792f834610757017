-- New routes that are out of bounds.
use Rattle.std.proofs.Common.{◌≡◌, ℕ, zero, suc, ◌-◌, ◌<◌, ◌≤◌, inl, inr, List, [], ◌∷◌, length, refl, sym, ap, ◌∙◌, subst, arith, length-set}
use Rattle.std.specs.Prelude.{slice_set, slice_get, All, Some}
use Rattle.std.proofs.lemmas.Bool.{cases_eq}
use Rattle.std.proofs.lemmas.List.{get_or-set_same, get_or-set_other}
use Rattle.plan_core.specs.Plan.{Changes, AreApart, IsNamed, route_at, with_routes}
use Rattle.dimension_core.specs.Setting.{Setting}
use Rattle.dimension_core.specs.Feasible.{FitsAll, IsFirstOut, IsFeasible}
use Rattle.dimension_core.specs.NewRoutes.{AllKnown, AllFit, IsOut}

-- two numbers that cannot be shown to differ are equal
not_other : (m n : ℕ) → ((m ≡ n → ⊥) → ⊥) → m ≡ n
not_other m n h = elim (cases_eq m n) [ inl same ↦ same | inr other ↦ absurd (h other) ]

-- the first vehicle and dimension that are out of bounds are unique
pub same_out : ((s : Setting) (vehicle : ℕ) (route : List ℕ) (d e : ℕ) → IsFirstOut s vehicle route d → IsFirstOut s vehicle route e → d ≡ e)
    → (s : Setting) (cs : Changes) (v d w e : ℕ) → IsOut s cs v d → IsOut s cs w e → (v ≡ w) × (d ≡ e)
same_out alone s [] v d w e a b = absurd a
same_out alone s (c ∷ cs) v d w e a b =
    let both : ((v ≡ w) × (d ≡ e) → ⊥) → ⊥ = λ none.
    let never : FitsAll s c.0 c.1 → ⊥ = λ fits. none (same_out alone s cs v d w e (a.1 fits) (b.1 fits)) in
    let one = a.0 never in
    let other = b.0 never in
    none (one.0 ∙ sym other.0, alone s c.0 c.1 d e one.1 other.1) in
    (not_other v w (λ h. both (λ same. h same.0)), not_other d e (λ h. both (λ same. h same.1)))

-- a vehicle that some new routes do not name keeps its route
kept_route : (changes : Changes) (n : ℕ) (routes : List (List ℕ)) (v : ℕ) → AreApart n changes → 1 ≤ v → ¬ IsNamed changes v
    → route_at (with_routes changes routes) v ≡ route_at routes v
kept_route [] n routes v apart low none = refl
kept_route (c ∷ cs) n routes v apart low none =
    let first = apart.0 in
    let other : (v - 1 ≡ c.0 - 1) → ⊥ = λ h. none (inl (omega (arith, h))) in
    kept_route cs n (slice_set routes (c.0 - 1) c.1) v apart.3 low (λ named. none (inr named)) ∙ get_or-set_other routes (c.0 - 1) (v - 1) c.1 [] other

-- where a new route is out of bounds the new plan is not feasible
pub out_feasible : (s : Setting) (changes : Changes) (routes : List (List ℕ)) (v d : ℕ) → length routes ≡ s.vehicles → AreApart s.vehicles changes
    → IsOut s changes v d → IsFeasible s (with_routes changes routes) → ⊥
out_feasible s [] routes v d sized apart out feasible = out
out_feasible s (c ∷ cs) routes v d sized apart out feasible =
    let low = apart.0 in
    let high = apart.1 in
    let below : c.0 - 1 < length routes = omega arith in
    let same : route_at (with_routes cs (slice_set routes (c.0 - 1) c.1)) c.0 ≡ c.1 =
    kept_route cs s.vehicles (slice_set routes (c.0 - 1) c.1) c.0 apart.3 low apart.2 ∙ get_or-set_same routes (c.0 - 1) c.1 [] below in
    let fits : FitsAll s c.0 c.1 = subst (λ (xs : List ℕ). FitsAll s c.0 xs) same (feasible c.0 low high) in
    out_feasible s cs (slice_set routes (c.0 - 1) c.1) v d (length-set routes (c.0 - 1) c.1 ∙ sized) apart.3 (out.1 fits) feasible

-- one new route that is in bounds keeps a plan feasible
feasible_one : (s : Setting) (routes : List (List ℕ)) (v : ℕ) (r : List ℕ) → length routes ≡ s.vehicles → 1 ≤ v → v ≤ s.vehicles → FitsAll s v r
    → IsFeasible s routes → IsFeasible s (slice_set routes (v - 1) r)
feasible_one s routes v r sized low high fits old w wlow whigh = elim (cases_eq w v) [
  | inl same ↦
      let below : v - 1 < length routes = omega arith in
      let e : route_at (slice_set routes (v - 1) r) w ≡ r =
      ap (λ (n : ℕ). route_at (slice_set routes (v - 1) r) n) same ∙ get_or-set_same routes (v - 1) r [] below in
      subst (λ (xs : List ℕ). FitsAll s w xs) (sym e) (subst (λ (n : ℕ). FitsAll s n r) (sym same) fits)
  | inr other ↦
      let apart : (w - 1 ≡ v - 1) → ⊥ = λ h. other (omega (arith, h)) in
      subst (λ (xs : List ℕ). FitsAll s w xs) (sym (get_or-set_other routes (v - 1) (w - 1) r [] apart)) (old w wlow whigh)
]

pub feasible_all : (s : Setting) (changes : Changes) (routes : List (List ℕ)) → length routes ≡ s.vehicles → AreApart s.vehicles changes → AllFit s changes
    → IsFeasible s routes → IsFeasible s (with_routes changes routes)
feasible_all s [] routes sized apart fits old = old
feasible_all s (c ∷ cs) routes sized apart fits old =
    feasible_all s cs (slice_set routes (c.0 - 1) c.1) (length-set routes (c.0 - 1) c.1 ∙ sized) apart.3 fits.1
    (feasible_one s routes c.0 c.1 sized apart.0 apart.1 fits.0 old)

-- new routes of vehicles of the fleet and customers of the setting are known
pub all_known : (s : Setting) (changes : Changes) → AreApart s.vehicles changes → ((k : ℕ) (c : ℕ × List ℕ) → slice_get changes k ≡ Some c → All (λ x. (1 ≤ x) × (x ≤ s.customers)) c.1) → AllKnown s changes
all_known s [] apart known = tt
all_known s (c ∷ cs) apart known = (
  (apart.0, apart.1, (λ k d below. (known zero c refl k d below).1)),
  all_known s cs apart.3 (λ k d at. known (suc k) d at),
)
