-- The marks of a picture.
use Rattle.std.specs.Prelude.{ℕ, ◌+◌, ◌-◌, ◌*◌, ◌/◌, max, nat_le, List, [], ◌∷◌, ◌++◌, length, map, Option, Some, None, if◌then◌else◌}
use Rattle.std.specs.List.{flat_map, range_with_len}
use Rattle.travel_table.specs.Travel.{node_at}
use Rattle.plan_sums.specs.declared.row.Row.{Row}
use Rattle.plan_sums.specs.declared.tour.Tour.{Tour}
use Rattle.plan_sums.specs.declared.visit.Visit.{Visit}
use Rattle.plan_sums.specs.Places.{Places, travel_of}
use Rattle.plan_sums.specs.Rows.{is_planned}
use Rattle.plan_sums.specs.Visits.{visit_at}
use Rattle.plan_sums.specs.Tours.{tours_of}
use Rattle.plan_sums.specs.Texts.{open_count}
use Rattle.plan_picture.specs.declared.layout.Layout.{Layout}
use Rattle.plan_marks.specs.declared.mark.Lane.{Lane}
use Rattle.plan_marks.specs.declared.mark.Mark.{Mark}
use Rattle.plan_marks.specs.declared.mark.Mark.TheVariants as marks
use Rattle.plan_marks.specs.Customers.{place_of, customers_before}
use Rattle.plan_marks.specs.Entries.{entries_before}
use Rattle.plan_picture.specs.Scales.{clock_of, frame_of, most_demand, x_of}

-- where the parts stand: beside the map the table, and below them the timelines, by how many lines and stops there are
abbrev pub layout_of : Places → List Row → List Tour → Layout
layout_of p rows tours = record {
  frame = frame_of p.nodes;
  most = most_demand p.nodes;
  clock = clock_of p.nodes;
  top = max (1300 + 190 * length tours) 7600 + 700;
  bottom = max (1300 + 190 * length tours) 7600 + 700 + 160 * (length rows - open_count rows);
}

-- ---- the ways

abbrev pub leg_of : Places → Layout → ℕ → ℕ → ℕ → Mark
leg_of p l vehicle i j = marks.Leg (record { vehicle = vehicle; from = i; to = j; start = place_of p l.frame i; end = place_of p l.frame j; way = travel_of p i j })

-- the way to a stop, where the node before is known
abbrev pub leg_from : Places → Layout → Row → Option ℕ → List Mark
leg_from p l row None = []
leg_from p l row (Some i) = leg_of p l row.vehicle i row.customer ∷ []

abbrev pub leg_in : Places → Layout → Visit → List Mark
leg_in p l v = leg_from p l v.row v.from

-- the way home from the last stop of a vehicle
abbrev pub leg_home : Places → Layout → Visit → List Mark
leg_home p l v = if v.is_last then leg_of p l v.row.vehicle v.row.customer 0 ∷ [] else []

abbrev pub legs_of : Places → Layout → Visit → List Mark
legs_of p l v = if is_planned v.row then leg_in p l v ++ leg_home p l v else []

-- ---- the numbers and the depot

-- a number for each, where there are not more than 100 customers
abbrev pub label_of : Places → Layout → Visit → Mark
label_of p l v = marks.Label (record { at = place_of p l.frame v.row.customer; customer = v.row.customer })

abbrev pub labels_of : Places → Layout → Visit → List Mark
labels_of p l v = if nat_le (length p.nodes) 101 then label_of p l v ∷ [] else []

abbrev pub depot_mark : Places → Layout → Mark
depot_mark p l = marks.Depot (record { at = place_of p l.frame 0; ready = (node_at p.nodes 0).ready; due = (node_at p.nodes 0).due })

-- ---- the timelines

-- a line at the start, the end and each quarter
abbrev pub tick_at : Layout → ℕ → Mark
tick_at l i = marks.Tick (record { x = 1600 + 2700 * i; top = l.top - 60; bottom = l.bottom; time = l.clock.from + l.clock.span * i / 4 })

abbrev pub lane_of : Layout → ℕ → Visit → Lane
lane_of l k v = record {
  y = l.top + 160 * k;
  visit = v;
  ready = x_of l.clock (v.node.ready * 10);
  due = x_of l.clock (v.node.due * 10);
  depart = x_of l.clock (v.arrival - v.way);
  arrival = x_of l.clock v.arrival;
  early = x_of l.clock v.row.early;
  leave = x_of l.clock v.leave;
  back = x_of l.clock (if v.is_last then v.leave + v.home else v.leave);
}

-- a lane for each planned row
abbrev pub lanes_of : Layout → ℕ → Visit → List Mark
lanes_of l k v = if is_planned v.row then marks.Lane (lane_of l k v) ∷ [] else []

-- ---- the picture

abbrev pub legs_before : Places → Layout → List Row → ℕ → List Mark
legs_before p l rows n = flat_map (λ k. legs_of p l (visit_at p rows k)) (range_with_len 0 n)

abbrev pub labels_before : Places → Layout → List Row → ℕ → List Mark
labels_before p l rows n = flat_map (λ k. labels_of p l (visit_at p rows k)) (range_with_len 0 n)

abbrev pub ticks_before : Layout → ℕ → List Mark
ticks_before l n = map (tick_at l) (range_with_len 0 n)

abbrev pub lanes_before : Places → Layout → List Row → ℕ → List Mark
lanes_before p l rows n = flat_map (λ k. lanes_of l k (visit_at p rows k)) (range_with_len 0 n)

-- On the map the ways, a mark for each row, the depot over them, and the numbers, the lower ones first.
abbrev pub map_of : Places → Layout → List Row → List Mark
map_of p l rows = legs_before p l rows (length rows)
    ++ (customers_before p l.frame l.most rows (length rows)
    ++ (depot_mark p l ∷ labels_before p l rows (length rows)))

-- all marks: the map, then the table, then the timelines
abbrev pub marks_of : Places → Layout → List Row → List Tour → List Mark
marks_of p l rows tours = map_of p l rows
    ++ (entries_before p tours (length tours) ++ (ticks_before l 5 ++ lanes_before p l rows (length rows)))

-- the picture of a listing
abbrev pub picture_of : Places → List Row → List Mark
picture_of p rows = marks_of p (layout_of p rows (tours_of p rows)) rows (tours_of p rows)
