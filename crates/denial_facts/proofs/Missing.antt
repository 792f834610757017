use Rattle.std.proofs.Common.{take, refl, subst, ◌≡◌, ℕ, ◌+◌, ◌<◌, ◌≤◌, arith, inl, inr, List, [], ◌∷◌, length}
use Rattle.std.specs.Prelude.{slice_index}
use Rattle.std.specs.Prelude.{Some, None}
use Rattle.std.proofs.lemmas.Bool.{cases_lt}
use Rattle.dimension_core.specs.declared.range.Range.{Range}
use Rattle.callback_store.specs.Tables.{Table}
use Rattle.dimension_core.specs.Cumuls.{Bounds, IsInBounds, IsSpan, IsStep, IsWithin, Reaches, last_of}
use Rattle.dimension_core.specs.Laws.{SpansGoOn}
use Rattle.std.proofs.lemmas.Grind.{common_steps}
use Rattle.std.proofs.lemmas.List.{length-append}
use Rattle.denial_facts.specs.Misses.{stops_of, IsFirstMiss, MayWait, least_after, most_at}

step_at : (t : Table) (d : Bounds) (vehicle i x j : ℕ) → MayWait d vehicle j → least_after t d i x j ≤ most_at d vehicle j
    → IsStep t d vehicle i x j (least_after t d i x j)
step_at t d vehicle i x j may h = elim may [
  | inl low ↦ record { cumul = record { low = omega arith; high = omega arith; capped = omega arith }; slack = omega arith; within = omega arith }
  | inr most ↦ record { cumul = record { low = omega arith; high = omega arith; capped = omega arith }; slack = omega arith; within = omega arith }
]

-- where no step leads to a node, its least value is too great
pub over_by : (t : Table) (d : Bounds) (vehicle i x j : ℕ) → ((y : ℕ) → IsStep t d vehicle i x j y → ⊥) → MayWait d vehicle j
    → most_at d vehicle j < least_after t d i x j
over_by t d vehicle i x j stuck may = elim (cases_lt (most_at d vehicle j) (least_after t d i x j)) [
  | inl over ↦ over
  | inr within ↦ absurd (stuck (least_after t d i x j) (step_at t d vehicle i x j may within))
]

-- where the span at a stop goes nowhere on, that is the first miss
pub missed : (t : Table) (d : Bounds) (vehicle : ℕ) (stops : List ℕ) (stop from node least most : ℕ) (range : Range) → SpansGoOn → stop < length stops
    → IsSpan (Some range) (Reaches t d vehicle (take stop stops)) → from ≡ last_of 0 (take stop stops) → node ≡ slice_index stops stop
    → IsSpan None (λ (y : ℕ). (x : ℕ) × IsWithin (Some range) x × IsStep t d vehicle from x node y)
    → least ≡ least_after t d from range.lo node → most ≡ most_at d vehicle node
    → IsFirstMiss t d vehicle stops stop least most
missed t d vehicle stops stop from node least most range law within span at here none least_is most_is =
    let gone = law.next t d vehicle stops stop from node range None within span at here none in
    let filled : range.lo ≤ range.hi = span.filled in
    record {
      within = within;
      none = λ y r. gone.all y r;
      before = range.lo;
      early = law.early t d vehicle (take stop stops) range span;
      least_is = rw (← at, ← here) least_is;
      most_is = rw (← here) most_is;
      over = λ may. rw (least_is, most_is) (over_by t d vehicle from range.lo node (λ y step. none.all y (range.lo, (omega arith, filled), step)) (rw here may));
    }

-- a route whose last stop has a span is in bounds
pub at_end : (t : Table) (d : Bounds) (vehicle : ℕ) (route : List ℕ) (k : ℕ) (range : Range) → SpansGoOn → k ≡ length route + 1
    → IsSpan (Some range) (Reaches t d vehicle (take k (stops_of route))) → IsInBounds t d vehicle route
at_end t d vehicle [] k range law e span = ∣ inl refl ∣₁
at_end t d vehicle (c ∷ cs) k range law e span =
    let all : take k (stops_of (c ∷ cs)) ≡ stops_of (c ∷ cs) = grind (arith, common_steps, length-append) in
    let whole = subst (λ (js : List ℕ). IsSpan (Some range) (Reaches t d vehicle js)) all span in
    (law.bounds t d vehicle (c ∷ cs) (Some range) (omega arith) whole).0 refl
