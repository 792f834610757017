-- The new routes that are left to look at.
use Rattle.std.proofs.Common.{◌≡◌, ℕ, ◌-◌, ◌≤◌, refl, subst, inl, inr, List, [], ◌∷◌}
use Rattle.std.specs.Prelude.{All}
use Rattle.dimension_core.specs.Feasible.{FitsAll, FitsIn}
use Rattle.dimension_core.specs.NewRoutes.{Changes, AllKnown, IsOut}
use Rattle.dimension_core.specs.Setting.{Setting}
use Rattle.denial_facts.specs.Excesses.{HasRoute}

-- each new route that is left is known and one of all, and one of all is out only if one that is left is
pub record IsRest (s : Setting) (all rest : Changes) (v d : ℕ) : Type 0 where
  pub known : AllKnown s rest
  pub among : (route : List ℕ) → HasRoute rest v route → HasRoute all v route
  pub out : (IsOut s rest v d → ⊥) → IsOut s all v d → ⊥

pub rest_all : (s : Setting) (all : Changes) (v d : ℕ) → AllKnown s all → IsRest s all all v d
rest_all s all v d known = record { known = known; among = λ route h. h; out = λ no. no }

next_by : (s : Setting) (all next : Changes) (v d : ℕ) (c : ℕ × List ℕ) → IsRest s all (c ∷ next) v d → (v ≡ c.0 → FitsIn s (d - 1) v c.1) → IsRest s all next v d
next_by s all next v d c r fits = record {
  known = r.known.1;
  among = λ route h. r.among route (inr h);
  out = λ no. r.out (λ o.
      let misfit : FitsAll s c.0 c.1 → ⊥ = λ f. no (o.1 f) in
      let q = o.0 misfit in
      q.1.out (subst (λ (w : ℕ). FitsIn s (d - 1) w c.1) q.0 (fits q.0)));
}

pub rest_next : (s : Setting) (all rest next : Changes) (v d : ℕ) (c : ℕ × List ℕ) → IsRest s all rest v d → rest ≡ c ∷ next → (v ≡ c.0 → FitsIn s (d - 1) v c.1) → IsRest s all next v d
rest_next s all rest next v d c r e fits = next_by s all next v d c (subst (λ (cs : Changes). IsRest s all cs v d) e r) fits

pub rest_here : (s : Setting) (all rest next : Changes) (v d : ℕ) (c : ℕ × List ℕ) → IsRest s all rest v d → rest ≡ c ∷ next → c.0 ≡ v → HasRoute all v c.1
rest_here s all rest next v d c r e same = (subst (λ (cs : Changes). IsRest s all cs v d) e r).among c.1 (inl (same, refl))

pub rest_known : (s : Setting) (all rest next : Changes) (v d : ℕ) (c : ℕ × List ℕ) → IsRest s all rest v d → rest ≡ c ∷ next
    → (1 ≤ c.0) × (c.0 ≤ s.vehicles) × All (λ (customer : ℕ). customer ≤ s.customers) c.1
rest_known s all rest next v d c r e = (subst (λ (cs : Changes). IsRest s all cs v d) e r).known.0

pub rest_none : (s : Setting) (all rest : Changes) (v d : ℕ) → IsRest s all rest v d → rest ≡ [] → IsOut s all v d → ⊥
rest_none s all rest v d r e = (subst (λ (cs : Changes). IsRest s all cs v d) e r).out (λ o. o)
