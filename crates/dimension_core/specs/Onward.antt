-- From which cumuls the rest of a route can be travelled.
use Rattle.std.specs.Prelude.{ℕ, ◌+◌, ◌≤◌, List, Some}
use Rattle.callback_store.specs.Tables.{Table, entry}
use Rattle.dimension_core.specs.declared.range.Range.{Range}
use Rattle.dimension_core.specs.Cumuls.{Bounds, IsCumul, GoOn, IsWithin}

-- x is a cumul at node i from which the way over these nodes can be continued
pub record IsOnward (t : Table) (d : Bounds) (vehicle i : ℕ) (js : List ℕ) (x : ℕ) : Type 0 where
  pub cumul : IsCumul d vehicle i x
  pub on : (ys : List ℕ) × GoOn t d vehicle i x js ys

-- x is a cumul at node i, and a cumul at node j within the range may follow it
pub record IsBefore (t : Table) (d : Bounds) (vehicle i j : ℕ) (range : Range) (x : ℕ) : Type 0 where
  pub cumul : IsCumul d vehicle i x
  pub next : (y : ℕ) × IsWithin (Some range) y × (x + entry t i j ≤ y) × (y ≤ x + entry t i j + d.slack_max)
