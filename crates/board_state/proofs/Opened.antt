-- The opening policy gives access to its one session alone.
use Rattle.std.proofs.Common.{◌≡◌, ℕ, zero, suc, ◌-◌, Bool, true, false, [], ◌∷◌, None, ◌∙◌, refl, sym, ap, subst, nat_eq}
use Rattle.std.specs.Prelude.{◌||◌, replicate, slice_index}
use Rattle.dimension_core.specs.Setting.{Setting}
use Rattle.plan_core.specs.Plan.{PlanState, stamp_of}
use Rattle.range_cache.specs.Cache.{IsCacheOf}
use Rattle.permission_core.specs.declared.objects.Operation.{Operation}
use Rattle.permission_core.specs.declared.objects.Object.{Object}
use Rattle.policy_core.specs.State.{PolicyState, is_session}
use Rattle.policy_core.specs.Access.{has_access}
use Rattle.policy_core.specs.Opening.{opening}
use Rattle.permission_table.specs.Compiled.{AreCompiled, HasSizes, SameAccessBut}
use Rattle.board_state.specs.Held.{HeldState, IsOpening, IsOpened}

-- a session that is not there has no access
no_access : (p : PolicyState) (session : ℕ) (operation : Operation) (object : Object) → is_session p session ≡ false → has_access p session operation object ≡ false
unfolding has_access
no_access p session operation object out = rw out refl

-- the opening policy without its session
abbrev pub before_session : ℕ → ℕ → PolicyState
before_session customers vehicles = record (opening customers vehicles) { sessions = [] }

first_of_none : (a b : Bool) → (a || b) ≡ false → a ≡ false
first_of_none true b h = absurd cc
first_of_none false b h = refl

pub opened_alone : (customers vehicles : ℕ) → SameAccessBut (1 ∷ []) (before_session customers vehicles) (opening customers vehicles)
opened_alone customers vehicles = record {
  reach = λ session out. (let e = first_of_none (nat_eq session 1) false out in rw e refl);
  access = λ session out operation object.
      no_access (opening customers vehicles) session operation object (let e = first_of_none (nat_eq session 1) false out in rw e refl)
      ∙ sym (no_access (before_session customers vehicles) session operation object refl);
}

zero_everywhere : (n k : ℕ) → slice_index (replicate n 0) k ≡ 0
zero_everywhere zero k = refl
zero_everywhere (suc n) zero = refl
zero_everywhere (suc n) (suc k) = zero_everywhere n k

-- what is held before the first call stands for the opening state
pub opening_held : (s : Setting) (customers vehicles : ℕ) (held : HeldState) → customers ≡ s.customers → vehicles ≡ s.vehicles → IsOpened customers vehicles held.policy.now held.tables
    → held.plan ≡ record { customers = s.customers; routes = replicate s.vehicles []; version = 0; stamps = replicate s.vehicles 0 }
    → held.pins ≡ record { pins = replicate s.customers None; fronts = replicate s.vehicles 0 } → IsCacheOf s (replicate s.vehicles []) held.cache → IsOpening s held
unfolding IsOpening IsOpened
opening_held s customers vehicles held few_customers few_vehicles opened plan pins cache =
    let policy : held.policy.now ≡ opening s.customers s.vehicles = opened.0 ∙ (λ i. opening (few_customers i) (few_vehicles i)) in
    record {
      policy = policy;
      compiled = ∣ subst (λ (p : PolicyState). AreCompiled held.tables p) policy opened.1 ∣₁;
      sizes = subst (λ (p : PolicyState). HasSizes p held.tables) policy opened.2;
      customers = ap (λ (p : PlanState). p.customers) plan;
      routes = ap (λ (p : PlanState). p.routes) plan;
      stamps = record {
        version = ap (λ (p : PlanState). p.version) plan;
        stamps = λ v low high. ap (λ (p : PlanState). stamp_of p v) plan ∙ zero_everywhere s.vehicles (v - 1);
      };
      pins = pins;
      cache = cache;
    }
