-- The places of a plan that is held, and the early values there.
use Rattle.std.proofs.Common.{◌≡◌, ℕ, ◌+◌, ◌<◌, ◌≤◌, List, [], ◌∷◌, ◌++◌, length, take, sym, ap, ◌∙◌, subst, arith, slice_index, inl, inr}
use Rattle.std.specs.Prelude.{cond}
use Rattle.std.proofs.Math.Seq.{get_or-append_seam}
use Rattle.std.proofs.lemmas.Bool.{cases_eq, ne_eqb}
use Rattle.std.proofs.lemmas.List.{get_or_append_left}
use Rattle.dimension_core.specs.Cumuls.{IsEarly, table_of}
use Rattle.dimension_core.specs.Setting.{Setting, dimension_at}
use Rattle.plan_core.specs.Plan.{route_at}
use Rattle.range_cache.specs.Cache.{CacheState, IsCacheOf, HasEarly}
use Rattle.board_rules.specs.Listing.{RowShown, HasEarlyValues}
use Rattle.board_rules.specs.State.{BoardState}
use Rattle.board_state.specs.Held.{HeldState, Holds}
use Rattle.board_core.specs.Shown.{IsStop}

module _ (s : Setting) (held : HeldState) (board : BoardState) (holds : Holds s held board) where
  -- there is a route for each vehicle
  pub fleet : length held.plan.routes ≡ s.vehicles
  fleet = ap length holds.routes ∙ holds.cache.vehicles

  pub same_route : (v : ℕ) → route_at held.plan.routes v ≡ route_at board.routes v
  same_route v = ap (λ rs. route_at rs v) holds.routes

  pub stop_at : (cache : CacheState) (v p : ℕ) → cache ≡ held.cache → 1 ≤ v → v ≤ s.vehicles → 1 ≤ p → p ≤ length (route_at held.plan.routes v) → IsStop s board.routes cache v p
  stop_at cache v p e low high first last = record {
    kept = subst (λ (x : CacheState). IsCacheOf s board.routes x) (sym e) holds.cache;
    first_vehicle = low;
    last_vehicle = high;
    first_place = first;
    last_place = subst (λ (r : List ℕ). p ≤ length r) (same_route v) last;
  }

pub next_within : (k n v m : ℕ) → k < n → n ≡ v → m ≡ v → k + 1 ≤ m
next_within k n v m h e f = omega (arith, e, f)

pub all_within : (k n v m : ℕ) → n ≤ k → n ≡ v → m ≡ v → m ≤ k
all_within k n v m h e f = omega (arith, e, f)

pub some_next : (k : ℕ) → 1 ≤ k + 1
some_next k = omega arith

pub has_early : (s : Setting) (routes : List (List ℕ)) (cache : CacheState) (d v p : ℕ) → IsStop s routes cache v p → 1 ≤ d → d ≤ length s.dimensions → HasEarly s routes cache d v p
has_early s routes cache d v p stop low high = record {
  kept = stop.kept;
  first_dimension = low;
  last_dimension = high;
  first_vehicle = stop.first_vehicle;
  last_vehicle = stop.last_vehicle;
  first_place = stop.first_place;
  last_place = stop.last_place;
}

abbrev pub IsEarlyAt : Setting → List (List ℕ) → ℕ → ℕ → ℕ → ℕ → Type 0
IsEarlyAt s routes v p k y = IsEarly (table_of s.tables (dimension_at s k)) (dimension_at s k) v (take p (route_at routes v)) y

-- one more value
pub early_more : (s : Setting) (routes : List (List ℕ)) (v p n y : ℕ) (early : List ℕ) → length early ≡ n
    → ((k : ℕ) → k < n → IsEarlyAt s routes v p k (slice_index early k)) → IsEarlyAt s routes v p n y
    → (k : ℕ) → k < n + 1 → IsEarlyAt s routes v p k (slice_index (early ++ y ∷ []) k)
early_more s routes v p n y early sized before now k below = elim (cases_eq k n) [
  | inl same ↦
      subst (λ (m : ℕ). IsEarlyAt s routes v p m (slice_index (early ++ y ∷ []) m)) (sized ∙ sym same)
      (subst (λ (z : ℕ). IsEarlyAt s routes v p (length early) z) (sym (get_or-append_seam early y [] 0)) (subst (λ (m : ℕ). IsEarlyAt s routes v p m y) (sym sized) now))
  | inr other ↦
      subst (λ (z : ℕ). IsEarlyAt s routes v p k z) (sym (get_or_append_left early (y ∷ []) 0 k (omega (arith, below, other, sized)))) (before k (omega (arith, below, other)))
]

-- a row with these values
pub row_early : (s : Setting) (routes : List (List ℕ)) (row : RowShown) (v p : ℕ) (early : List ℕ) → row.vehicle ≡ v → row.place ≡ p → row.early ≡ early
    → 1 ≤ v → length early ≡ length s.dimensions → ((k : ℕ) → k < length early → IsEarlyAt s routes v p k (slice_index early k)) → HasEarlyValues s routes row
row_early s routes row v p early ev ep ee low sized values = record {
  sized = ap length ee ∙ (sized ∙ ap (λ b. cond b 0 (length s.dimensions)) (sym (ne_eqb row.vehicle 0 (λ h. omega (arith, h, ev, low)))));
  values = λ k below.
      subst (λ (x : ℕ). IsEarlyAt s routes x row.place k (slice_index row.early k)) (sym ev)
      (subst (λ (x : ℕ). IsEarlyAt s routes v x k (slice_index row.early k)) (sym ep)
      (subst (λ (xs : List ℕ). IsEarlyAt s routes v p k (slice_index xs k)) (sym ee) (values k (omega (arith, below, ap length ee)))));
}
