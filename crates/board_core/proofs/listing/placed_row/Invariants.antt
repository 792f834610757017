use Rattle.std.proofs.Common.{◌≡◌, ℕ, List, ◌<◌, length, slice_index}
use Rattle.dimension_core.specs.Setup.{setting}
use Rattle.board_rules.specs.Listing.{spot_of}
use Rattle.board_core.specs.Shown.{IsStop}
use Rattle.board_core.proofs.Stops.{IsEarlyAt}
use Rattle.board_core.proofs.listing.placed_row.Given as goal

-- the values of the first dimensions are there
abbrev pub invariant-loop-before : goal.invariant-loop-before
invariant-loop-before g l = record {
  spot : spot_of l.row ≡ record { vehicle = l.vehicle; place = l.place; customer = l.customer };
  sized : length l.row.early ≡ l.before;
  values : (routes : List (List ℕ)) → IsStop (setting l.setup) routes l.cache l.vehicle l.place → (k : ℕ) → k < l.before
      → IsEarlyAt (setting l.setup) routes l.vehicle l.place k (slice_index l.row.early k);
}
