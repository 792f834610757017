-- A vehicle in a dimension, and what is looked up of both once for a whole route.
use Rattle.std.specs.Prelude.{◌≡◌, ℕ, ◌≤◌, List, length}
use Rattle.limits.specs.declared.TheConstants.{LARGEST_CUMUL}
use Rattle.callback_store.specs.Tables.{Table}
use Rattle.dimension_core.specs.Cumuls.{Reaches, cap_of}
use Rattle.route_parts.specs.declared.fits.Lane.{Lane}

pub record IsLane (l : Lane) : Type 0 where
  pub low : 1 ≤ l.vehicle
  pub high : l.vehicle ≤ length l.dimension.now.caps
  pub ranges : l.ranges.now ≡ l.dimension.now.ranges
  pub slack : l.slack_max ≡ l.dimension.now.slack_max
  pub cap : l.cap ≡ cap_of l.dimension.now l.vehicle
  pub little : l.slack_max ≤ LARGEST_CUMUL
  pub small : l.cap ≤ LARGEST_CUMUL

-- a callback's table knows the nodes of the dimension
abbrev pub Knows : Table → Lane → Type 0
Knows t l = t.size ≡ length l.dimension.now.ranges

-- y is the last cumul after some nodes
abbrev pub Gets : Table → Lane → List ℕ → ℕ → Type 0
Gets t l nodes = Reaches t l.dimension.now l.vehicle nodes
