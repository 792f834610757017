-- What a listing shows of a stop: from where the vehicle comes, when it is there, and where it goes.
use Rattle.std.specs.Prelude.{ℕ, ◌+◌, ◌-◌, ◌*◌, ◌<◌, ◌≤◌, Bool, not, nat_lt, ◌==◌, ◌&&◌, ◌||◌, if◌then◌else◌, List, length, Option, Some, None, IfSome}
use Rattle.limits.specs.declared.TheConstants.{LONGEST_TRAVEL}
use Rattle.travel_table.specs.Travel.{node_at}
use Rattle.plan_sums.specs.declared.row.Row.{Row}
use Rattle.plan_sums.specs.declared.visit.Visit.{Visit}
use Rattle.plan_sums.specs.Places.{Places, time_between, travel_of}
use Rattle.plan_sums.specs.Rows.{row_at}

-- two rows of one vehicle
abbrev pub share_vehicle : Row → Row → Bool
share_vehicle a b = a.vehicle == b.vehicle

-- the stop at b comes right after that at a
abbrev pub is_next_stop : Row → Row → Bool
is_next_stop a b = share_vehicle a b && (a.place + 1 == b.place)

-- the stop at a place of the listing comes right after that of the row before it
abbrev pub goes_on : List Row → ℕ → Bool
goes_on rows k = nat_lt 0 k && is_next_stop (row_at rows (k - 1)) (row_at rows k)

-- no row of the same vehicle comes before, or behind
abbrev pub is_first : List Row → ℕ → Bool
is_first rows k = (k == 0) || not (share_vehicle (row_at rows (k - 1)) (row_at rows k))

abbrev pub is_last : List Row → ℕ → Bool
is_last rows k = not (nat_lt (k + 1) (length rows) && share_vehicle (row_at rows k) (row_at rows (k + 1)))

-- The node from which a stop is reached, where the listing shows it: the depot for a first place, and else the customer of the row before, if that is
-- the place before on the same vehicle. (A session sees a stop only if it may view its customer, so that places may be missing.)
abbrev pub from_at : List Row → ℕ → Option ℕ
from_at rows k =
    if (row_at rows k).place == 1 then Some 0
    else (if goes_on rows k then Some (row_at rows (k - 1)).customer else None)

-- The time at which the vehicle arrives: after the stop before, where that is shown, and else just when service starts. (At a first place it is taken
-- to leave the depot no earlier than it has to.)
abbrev pub arrival_at : Places → List Row → ℕ → ℕ
arrival_at p rows k =
    if goes_on rows k
    then (row_at rows (k - 1)).early + time_between p (row_at rows (k - 1)).customer (row_at rows k).customer
    else (row_at rows k).early

-- the travel to a stop, where the node before is shown
abbrev pub way_from : Places → Option ℕ → ℕ → ℕ
way_from p None c = 0
way_from p (Some i) c = travel_of p i c

abbrev pub way_at : Places → List Row → ℕ → ℕ
way_at p rows k = way_from p (from_at rows k) (row_at rows k).customer

-- what the listing shows of the stop at a place
abbrev pub visit_at : Places → List Row → ℕ → Visit
visit_at p rows k = record {
  row = row_at rows k;
  node = node_at p.nodes (row_at rows k).customer;
  from = from_at rows k;
  way = way_at p rows k;
  arrival = arrival_at p rows k;
  leave = (row_at rows k).early + (node_at p.nodes (row_at rows k).customer).service * 10;
  home = travel_of p (row_at rows k).customer 0;
  is_last = is_last rows k;
}

-- the nodes of a visit are there, and its numbers are not large
pub record IsVisit (p : Places) (v : Visit) : Type 0 where
  pub customer : v.row.customer < length p.nodes
  pub from : IfSome v.from (λ i. i < length p.nodes)
  pub way : v.way ≤ LONGEST_TRAVEL
  pub home : v.home ≤ LONGEST_TRAVEL
  pub leave : v.leave ≤ 4394967285
