-- What is kept at both ends of a new route.
use Rattle.std.specs.Prelude.{ℕ, ◌+◌, ◌*◌, ◌<◌, [], ◌∷◌, ◌++◌, length}
use Rattle.callback_store.specs.Tables.{Table}
use Rattle.dimension_core.specs.Cumuls.{Bounds, IsSpan, Reaches}
use Rattle.route_parts.specs.declared.parts.Parts.{Parts}
use Rattle.route_parts.specs.Kept.{span_at, GoesOn}

-- the spans after the first part of a new route and before its last one are kept for the dimension at the place k
pub record HasEnds (t : Table) (d : Bounds) (vehicle : ℕ) (p : Parts) (k : ℕ) : Type 0 where
  pub ahead_within : k * p.ahead.now.width + length p.front.now < length p.ahead.now.cells
  pub ahead : IsSpan (span_at p.ahead.now k (length p.front.now)) (Reaches t d vehicle p.front.now)
  pub behind_within : k * p.behind.now.width + length p.back.now < length p.behind.now.cells
  pub behind : IsSpan (span_at p.behind.now k (length p.back.now)) (GoesOn t d vehicle (p.back.now ++ 0 ∷ []))
