-- The marks of the customers.
use Rattle.std.specs.Prelude.{ℕ, List, map, if◌then◌else◌}
use Rattle.std.specs.List.{range_with_len}
use Rattle.travel_table.specs.Travel.{node_at}
use Rattle.plan_sums.specs.declared.row.Row.{Row}
use Rattle.plan_sums.specs.declared.visit.Visit.{Visit}
use Rattle.plan_sums.specs.Places.{Places}
use Rattle.plan_sums.specs.Rows.{is_planned}
use Rattle.plan_sums.specs.Visits.{visit_at}
use Rattle.plan_marks.specs.declared.ground.Point.{Point}
use Rattle.plan_marks.specs.declared.ground.Frame.{Frame}
use Rattle.plan_marks.specs.declared.mark.Spot.{Spot}
use Rattle.plan_marks.specs.declared.mark.Mark.{Mark}
use Rattle.plan_marks.specs.declared.mark.Mark.TheVariants as marks
use Rattle.plan_marks.specs.Ground.{point_of, radius_of}

-- where a node stands on the map
abbrev pub place_of : Places → Frame → ℕ → Point
place_of p f i = point_of f (node_at p.nodes i)

abbrev pub spot_of : Places → Frame → ℕ → Visit → Spot
spot_of p f most v = record { at = place_of p f v.row.customer; radius = radius_of most (node_at p.nodes v.row.customer); visit = v }

-- one mark for each row: filled where its customer is planned, and else hollow
abbrev pub customer_mark : Places → Frame → ℕ → Visit → Mark
customer_mark p f most v = if is_planned v.row then marks.Stop (spot_of p f most v) else marks.Open (spot_of p f most v)

abbrev pub customers_before : Places → Frame → ℕ → List Row → ℕ → List Mark
customers_before p f most rows n = map (λ k. customer_mark p f most (visit_at p rows k)) (range_with_len 0 n)
