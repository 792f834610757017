use Rattle.std.proofs.Common.{◌≡◌, ℕ, ◌+◌, ◌<◌, ◌≤◌, refl, arith, inl, inr, subst, List, [], ◌∷◌, length, drop, get_or, drop-cons, add-one}
use Rattle.std.specs.Prelude.{All, suc}
use Rattle.std.proofs.lemmas.Bool.{cases_lt}
use Rattle.std.proofs.lemmas.List.Elements.{All-append, All-get_or, All-from_get_or}
use Rattle.callback_store.specs.Tables.{Table, entry}
use Rattle.dimension_core.specs.Cumuls.{Bounds, IsStart, IsStep, GoOn, IsInBounds, cap_of}
use Rattle.denial_facts.specs.Misses.{stops_of}
use Rattle.denial_facts.specs.Totals.{IsUpTo, total_of, ways_along}

-- along one more stop
pub along_next : (t : Table) (stops : List ℕ) (k from node sum way total : ℕ) → k < length stops → node ≡ get_or stops k 0 → way ≡ entry t from node
    → sum + ways_along t from (drop k stops) ≡ total → (sum + way) + ways_along t node (drop (k + 1) stops) ≡ total
along_next t stops k from node sum way total within here is before =
    let cons : drop k stops ≡ get_or stops k 0 ∷ drop (k + 1) stops = rw add-one (drop-cons stops k 0 within) in
    let there = subst (λ (xs : List ℕ). sum + ways_along t from xs ≡ total) cons before in
    rw (is, here) (omega (arith, there))

IsKnown : ℕ → List ℕ → Type 0
IsKnown n js = (k : ℕ) → k < length js → get_or js k 0 < n

-- where the ways along some stops do not lead above the capacity, their sums are cumuls
fits : (t : Table) (d : Bounds) (vehicle : ℕ) (js : List ℕ) (i x : ℕ) → IsUpTo d vehicle → ((k : ℕ) → k < length js → get_or js k 0 < length d.ranges)
    → x + ways_along t i js ≤ cap_of d vehicle → (ys : List ℕ) × GoOn t d vehicle i x js ys
fits t d vehicle [] i x up known small = ([], tt)
fits t d vehicle (j ∷ js) i x up known small =
    let rest = fits t d vehicle js j (x + entry t i j) up (λ k h. known (suc k) (omega arith)) (omega arith) in
    let here : j < length d.ranges = known 0 (omega arith) in
    let low = up.low j here in
    let high = up.high j here in
    let step : IsStep t d vehicle i x j (x + entry t i j) =
    record { cumul = record { low = omega arith; high = omega arith; capped = omega arith }; slack = omega arith; within = omega arith } in
    ((x + entry t i j) ∷ rest.0, (step, rest.1))

pub totals_over : (t : Table) (d : Bounds) (vehicle : ℕ) (route : List ℕ) → IsUpTo d vehicle → All (λ (node : ℕ). node < length d.ranges) route
    → (IsInBounds t d vehicle route → ⊥) → cap_of d vehicle < total_of t route
totals_over t d vehicle route up known out = elim (cases_lt (cap_of d vehicle) (total_of t route)) [
  | inl over ↦ over
  | inr within ↦
      let P : ℕ → Type 0 = λ node. node < length d.ranges in
      let some = up.some in
      let end : All P (0 ∷ []) = All-from_get_or P (0 ∷ []) 0 (λ i h. let e : i ≡ 0 = omega arith in rw e some) in
      let all : All P (stops_of route) = All-append P route (0 ∷ []) known end in
      let go = fits t d vehicle (stops_of route) 0 0 up (λ k h. All-get_or P (stops_of route) k 0 h all) (omega arith) in
      let low = up.low 0 some in
      let start : IsStart d vehicle 0 = record { cumul = record { low = omega arith; high = omega arith; capped = omega arith }; zeroed = λ h. refl } in
      absurd (out ∣ inr (0 ∷ go.0, (start, go.1)) ∣₁)
]
