-- New routes that are in bounds keep a plan feasible.
use Rattle.std.proofs.Common.{◌≡◌, ℕ, ◌-◌, ◌<◌, ◌≤◌, Bool, true, false, None, refl, inl, inr, List, [], ◌∷◌, length, get_or, Some, All, sym, ap, ◌∙◌, map, subst, arith, length-set}
use Rattle.std.specs.Prelude.{slice_get, slice_index_or, slice_set, if◌then◌else◌}
use Rattle.std.proofs.lemmas.Option.{slice_get-get_or}
use Rattle.std.proofs.lemmas.Bool.{cases_eq}
use Rattle.std.proofs.lemmas.List.{get_or-set_same, get_or-set_other, get_or-map, length-map}
use Rattle.dimension_core.specs.Setting.{Setting}
use Rattle.dimension_core.specs.Feasible.{FitsAll, IsFeasible}
use Rattle.dimension_core.specs.NewRoutes.{AllFit}
use Rattle.plan_core.specs.Plan.{Changes, IsPlan, AreApart, with_routes}

feasible_one : (s : Setting) (routes : List (List ℕ)) (v : ℕ) (r : List ℕ) → length routes ≡ s.vehicles → 1 ≤ v → v ≤ s.vehicles → FitsAll s v r
    → IsFeasible s routes → IsFeasible s (slice_set routes (v - 1) r)
feasible_one s routes v r sized low high fits old w wlow whigh = elim (cases_eq w v) [
  | inl same ↦
      let below : v - 1 < length routes = omega arith in
      let e : slice_index_or (slice_set routes (v - 1) r) (w - 1) [] ≡ r =
      ap (λ (n : ℕ). slice_index_or (slice_set routes (v - 1) r) (n - 1) []) same ∙ get_or-set_same routes (v - 1) r [] below in
      subst (λ (xs : List ℕ). FitsAll s w xs) (sym e) (subst (λ (n : ℕ). FitsAll s n r) (sym same) fits)
  | inr other ↦
      let apart : (w - 1 ≡ v - 1) → ⊥ = λ h. other (omega (arith, h)) in
      subst (λ (xs : List ℕ). FitsAll s w xs) (sym (get_or-set_other routes (v - 1) (w - 1) r [] apart)) (old w wlow whigh)
]

pub feasible_all : (s : Setting) (changes : Changes) (routes : List (List ℕ)) → length routes ≡ s.vehicles → AreApart s.vehicles changes → AllFit s changes
    → IsFeasible s routes → IsFeasible s (with_routes changes routes)
feasible_all s [] routes sized apart fits old = old
feasible_all s (c ∷ cs) routes sized apart fits old =
    feasible_all s cs (slice_set routes (c.0 - 1) c.1) (length-set routes (c.0 - 1) c.1 ∙ sized) apart.3 fits.1
    (feasible_one s routes c.0 c.1 sized apart.0 apart.1 fits.0 old)

-- no new route that makes a plan is longer than there are customers
pub short_routes : (customers limit : ℕ) (changes : Changes) (routes : List (List ℕ)) → customers ≤ limit → IsPlan customers (with_routes changes routes)
    → AreApart (length routes) changes
    → ((n : ℕ) (cs : Changes) (rs : List (List ℕ)) (k : ℕ) (c : ℕ × List ℕ) → IsPlan n (with_routes cs rs) → AreApart (length rs) cs → slice_get cs k ≡ Some c → length c.1 ≤ n)
    → All (λ c. length c.1 ≤ limit) changes
short_routes customers limit changes routes few plan apart law k d below =
    let short = law customers changes routes k (get_or changes k d) plan apart (slice_get-get_or changes k d below) in
    omega (arith, short, few)

-- what holds of all images holds of that of each
pub all_under : {X Y : Type 0} (f : Y → X) (P : X → Type 0) (ys : List Y) (xs : List X) → map f ys ≡ xs → All P xs → All (λ y. P (f y)) ys
all_under f P ys xs e h k d below =
    let all : All P (map f ys) = subst (λ zs. All P zs) (sym e) h in
    let within : k < length (map f ys) = omega (arith, below, length-map ys f) in
    subst P (get_or-map f ys k d (f d) below) (all k (f d) within)

-- new routes are an effect only of a move that is possible
pub has_effect : (possible : Bool) (changes : Changes) → (if possible then Some changes else None) ≡ Some changes → possible ≡ true
has_effect true changes h = refl
has_effect false changes h = let none : None ≡ Some changes = h in absurd cc
