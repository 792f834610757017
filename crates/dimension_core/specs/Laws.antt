-- Laws of spans, each said of all dimensions and routes. The public functions of `laws.rt` have them as contracts.
use Rattle.std.specs.Prelude.{◌≡◌, ℕ, ◌+◌, ◌<◌, ◌≤◌, ◌↔◌, min, max, List, [], ◌∷◌, ◌++◌, length, take, slice_index, Option, Some, None, IsTrue, is_some}
use Rattle.callback_store.specs.Tables.{Table}
use Rattle.dimension_core.specs.declared.range.Range.{Range}
use Rattle.dimension_core.specs.Cumuls.{Bounds, IsCumul, IsStart, IsStep, IsWithin, IsSpan, Reaches, IsEarly, IsInBounds, AreCumuls, last_of}
use Rattle.dimension_core.specs.Onward.{IsOnward, IsBefore}

-- How the span of a route is carried along with `Dimension::start` and `Dimension::extend`. It begins with what `start` gives (`start`),
-- goes on with what `extend` gives (`push`; `next` by the index of the stop in a route), and stays absent once there is none (`none`). Its
-- first number is the early value (`early`), and with the way back to the depot it decides whether the route is in bounds (`bounds`).
pub record SpansGoOn : Type 0 where
  pub start : (t : Table) (d : Bounds) (vehicle : ℕ) (span : Option Range) → IsSpan span (IsStart d vehicle) → IsSpan span (Reaches t d vehicle [])
  pub push : (t : Table) (d : Bounds) (vehicle : ℕ) (nodes : List ℕ) (node : ℕ) (range : Range) (span : Option Range)
      → IsSpan (Some range) (Reaches t d vehicle nodes)
      → IsSpan span (λ y. (x : ℕ) × IsWithin (Some range) x × IsStep t d vehicle (last_of 0 nodes) x node y)
      → IsSpan span (Reaches t d vehicle (nodes ++ node ∷ []))
  pub next : (t : Table) (d : Bounds) (vehicle : ℕ) (nodes : List ℕ) (k from node : ℕ) (range : Range) (span : Option Range) → k < length nodes
      → IsSpan (Some range) (Reaches t d vehicle (take k nodes)) → from ≡ last_of 0 (take k nodes) → node ≡ slice_index nodes k
      → IsSpan span (λ y. (x : ℕ) × IsWithin (Some range) x × IsStep t d vehicle from x node y)
      → IsSpan span (Reaches t d vehicle (take (k + 1) nodes))
  pub last : (nodes : List ℕ) (k : ℕ) → k < length nodes → slice_index nodes k ≡ last_of 0 (take (k + 1) nodes)
  pub none : (t : Table) (d : Bounds) (vehicle : ℕ) (nodes more : List ℕ) → IsSpan None (Reaches t d vehicle nodes) → IsSpan None (Reaches t d vehicle (nodes ++ more))
  pub early : (t : Table) (d : Bounds) (vehicle : ℕ) (nodes : List ℕ) (range : Range) → IsSpan (Some range) (Reaches t d vehicle nodes) → IsEarly t d vehicle nodes range.lo
  pub bounds : (t : Table) (d : Bounds) (vehicle : ℕ) (route : List ℕ) (span : Option Range) → 0 < length route
      → IsSpan span (Reaches t d vehicle (route ++ 0 ∷ [])) → IsTrue (is_some span) ↔ IsInBounds t d vehicle route

-- How the cumuls from which the rest of a route can be travelled are carried from its end backwards with `Dimension::precede`. At the last
-- node every cumul is good (`end`), a node before it gets what `precede` gives (`push`), and they stay absent once there are none (`none`).
-- At a stop z a span from the front and one from the back meet exactly where there are cumuls for the whole way (`joint`).
pub record SpansMeet : Type 0 where
  pub end : (t : Table) (d : Bounds) (vehicle i : ℕ) (span : Option Range) → IsSpan span (IsCumul d vehicle i) → IsSpan span (IsOnward t d vehicle i [])
  pub push : (t : Table) (d : Bounds) (vehicle i j : ℕ) (rest : List ℕ) (range : Range) (span : Option Range)
      → IsSpan (Some range) (IsOnward t d vehicle j rest) → IsSpan span (IsBefore t d vehicle i j range) → IsSpan span (IsOnward t d vehicle i (j ∷ rest))
  pub none : (t : Table) (d : Bounds) (vehicle i j : ℕ) (rest : List ℕ) → IsSpan None (IsOnward t d vehicle j rest) → IsSpan None (IsOnward t d vehicle i (j ∷ rest))
  pub joint : (t : Table) (d : Bounds) (vehicle : ℕ) (done : List ℕ) (z : ℕ) (rest : List ℕ) (front back : Range)
      → IsSpan (Some front) (Reaches t d vehicle (done ++ z ∷ [])) → IsSpan (Some back) (IsOnward t d vehicle z rest)
      → (max front.lo back.lo ≤ min front.hi back.hi) ↔ ∥ ((cumuls : List ℕ) × AreCumuls t d vehicle (done ++ (z ∷ rest)) cumuls) ∥₁
