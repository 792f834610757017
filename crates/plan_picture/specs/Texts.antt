-- The text of a picture: SVG.
use Rattle.std.specs.Prelude.{ℕ, ◌+◌, ◌-◌, ◌/◌, ◌%◌, ◌==◌, if◌then◌else◌, List, ◌++◌, length, codes, Option, Some, None}
use Rattle.std.specs.List.{flat_map}
use Rattle.std.specs.Fmt.{decimal}
use Rattle.plan_sums.specs.declared.row.Row.{Row}
use Rattle.plan_sums.specs.declared.tour.Tour.{Tour}
use Rattle.plan_sums.specs.declared.visit.Visit.{Visit}
use Rattle.plan_sums.specs.Places.{Places}
use Rattle.plan_sums.specs.Tours.{cost_of, tours_of}
use Rattle.plan_sums.specs.Texts.{open_count}
use Rattle.plan_picture.specs.declared.style.TheConstants.{STYLE, HEADINGS}
use Rattle.plan_picture.specs.declared.layout.Layout.{Layout}
use Rattle.plan_marks.specs.declared.mark.Leg.{Leg}
use Rattle.plan_marks.specs.declared.mark.Spot.{Spot}
use Rattle.plan_marks.specs.declared.mark.Depot.{Depot}
use Rattle.plan_marks.specs.declared.mark.Label.{Label}
use Rattle.plan_marks.specs.declared.mark.Entry.{Entry}
use Rattle.plan_marks.specs.declared.mark.Tick.{Tick}
use Rattle.plan_marks.specs.declared.mark.Lane.{Lane}
use Rattle.plan_marks.specs.declared.mark.Mark.{Mark}
use Rattle.plan_marks.specs.declared.mark.Mark.TheVariants as marks
use Rattle.plan_marks.specs.Names.{escaped}
use Rattle.plan_picture.specs.Marks.{layout_of, picture_of}

-- ---- numbers

-- tenths, in the file's unit
unfoldable pub unit_text : ℕ → List ℕ
unit_text t = decimal (t / 10) ++ (codes "." ++ decimal (t % 10))

unfoldable pub start_text : Option ℕ → List ℕ
start_text None = codes "?"
start_text (Some t) = unit_text t

-- of a vehicle, its colour and how its lines are broken
abbrev pub colour_of : ℕ → ℕ
colour_of vehicle = vehicle % 8

abbrev pub dash_of : ℕ → ℕ
dash_of vehicle = vehicle / 8 % 4

-- ---- what a mark says of itself

-- a planned customer
unfoldable pub stop_note : Visit → List ℕ
stop_note v = codes "customer " ++ (decimal v.row.customer
    ++ (codes ", vehicle " ++ (decimal v.row.vehicle
    ++ (codes ", place " ++ (decimal v.row.place
    ++ (codes ": window " ++ (decimal v.node.ready
    ++ (codes " to " ++ (decimal v.node.due
    ++ (codes ", demand " ++ (decimal v.node.demand
    ++ (codes ", arrival " ++ (unit_text v.arrival
    ++ (codes ", service from " ++ unit_text v.row.early))))))))))))))

-- ---- the marks

-- a way: its line over the middle, where the arrow is, and its vehicle and nodes
unfoldable pub leg_text : Leg → List ℕ
leg_text m = codes "<path class=\"l c" ++ (decimal (colour_of m.vehicle)
    ++ (codes " p" ++ (decimal (dash_of m.vehicle)
    ++ (codes "\" d=\"M" ++ (decimal m.start.x
    ++ (codes " " ++ (decimal m.start.y
    ++ (codes "L" ++ (decimal (m.start.x / 2 + m.end.x / 2)
    ++ (codes " " ++ (decimal (m.start.y / 2 + m.end.y / 2)
    ++ (codes "L" ++ (decimal m.end.x
    ++ (codes " " ++ (decimal m.end.y
    ++ (codes "\"><title>vehicle " ++ (decimal m.vehicle
    ++ (codes ": " ++ (decimal m.from
    ++ (codes " to " ++ (decimal m.to
    ++ (codes ", " ++ (unit_text m.way ++ codes "</title></path>\n")))))))))))))))))))))))

unfoldable pub depot_text : Depot → List ℕ
depot_text m = codes "<path class=\"d\" d=\"M" ++ (decimal m.at.x
    ++ (codes " " ++ (decimal m.at.y
    ++ (codes "m-80 -80h160v160h-160z\"><title>depot: " ++ (decimal m.ready
    ++ (codes " to " ++ (decimal m.due ++ codes "</title></path>\n")))))))

-- a planned customer, and the part up to what its circle says of itself
unfoldable pub stop_open : Spot → List ℕ
stop_open m = codes "<circle class=\"s f" ++ (decimal (colour_of m.visit.row.vehicle)
    ++ (codes "\" cx=\"" ++ (decimal m.at.x
    ++ (codes "\" cy=\"" ++ (decimal m.at.y
    ++ (codes "\" r=\"" ++ (decimal m.radius ++ codes "\"><title>")))))))

unfoldable pub stop_text : Spot → List ℕ
stop_text m = stop_open m ++ (stop_note m.visit ++ codes "</title></circle>\n")

-- a customer who is not planned
unfoldable pub open_text : Spot → List ℕ
open_text m = codes "<circle class=\"o\" cx=\"" ++ (decimal m.at.x
    ++ (codes "\" cy=\"" ++ (decimal m.at.y
    ++ (codes "\" r=\"" ++ (decimal m.radius
    ++ (codes "\"><title>customer " ++ (decimal m.visit.row.customer
    ++ (codes ", not planned: window " ++ (decimal m.visit.node.ready
    ++ (codes " to " ++ (decimal m.visit.node.due
    ++ (codes ", demand " ++ (decimal m.visit.node.demand ++ codes "</title></circle>\n")))))))))))))

unfoldable pub label_text : Label → List ℕ
label_text m = codes "<text class=\"n\" dx=\"80\" dy=\"-50\" x=\"" ++ (decimal m.at.x
    ++ (codes "\" y=\"" ++ (decimal m.at.y
    ++ (codes "\">" ++ (decimal m.customer ++ codes "</text>\n")))))

-- a line of the table: its vehicle; how many stops it has in the listing, with a plus sign where places between them are not in it; and its sums
unfoldable pub stops_end : Tour → List ℕ
stops_end t = if t.hidden == 0 then codes "</text><text class=\"e\" x=\"9500\">" else codes "+</text><text class=\"e\" x=\"9500\">"

unfoldable pub entry_open : Entry → List ℕ
entry_open m = codes "<g transform=\"translate(0 " ++ (decimal m.y
    ++ (codes ")\"><use href=\"#r\" class=\"r c" ++ (decimal (colour_of m.tour.vehicle)
    ++ (codes " p" ++ (decimal (dash_of m.tour.vehicle)
    ++ (codes "\"/><text class=\"e\" x=\"7650\">" ++ (decimal m.tour.vehicle
    ++ (codes "</text><text class=\"e\" x=\"8350\">" ++ (decimal m.tour.stops
    ++ (stops_end m.tour ++ (decimal m.tour.load
    ++ (codes " of " ++ (decimal m.capacity ++ codes "</text><text class=\"e\" x=\"10450\">")))))))))))))

unfoldable pub entry_end : Entry → List ℕ
entry_end m = codes "</text><text class=\"e\" x=\"11450\">" ++ (unit_text m.tour.back
    ++ (codes "</text><text class=\"e\" x=\"12600\">" ++ (unit_text m.tour.distance ++ codes "</text></g>\n")))

unfoldable pub entry_text : Entry → List ℕ
entry_text m = entry_open m ++ (start_text m.tour.start ++ entry_end m)

unfoldable pub tick_text : Tick → List ℕ
tick_text m = codes "<path class=\"x\" d=\"M" ++ (decimal m.x
    ++ (codes " " ++ (decimal m.top
    ++ (codes "V" ++ (decimal m.bottom
    ++ (codes "\"/><text class=\"y\" dy=\"-40\" x=\"" ++ (decimal m.x
    ++ (codes "\" y=\"" ++ (decimal m.top
    ++ (codes "\">" ++ (unit_text m.time ++ codes "</text>\n")))))))))))

-- a lane: its place; its vehicle and customer; the window; the travel to the stop and home, and the waiting; the service, with a line where it starts
unfoldable pub lane_open : Lane → List ℕ
lane_open m = codes "<g transform=\"translate(0 " ++ (decimal m.y ++ codes ")\"><title>")

unfoldable pub lane_end : Lane → List ℕ
lane_end m = codes "</title><use href=\"#h\"/><text class=\"e\" x=\"650\" y=\"120\">" ++ (decimal m.visit.row.vehicle
    ++ (codes "</text><text class=\"e\" x=\"1350\" y=\"120\">" ++ (decimal m.visit.row.customer
    ++ (codes "</text><rect class=\"w\" y=\"30\" height=\"100\" x=\"" ++ (decimal m.ready
    ++ (codes "\" width=\"" ++ (decimal (m.due - m.ready)
    ++ (codes "\"/><path class=\"t c" ++ (decimal (colour_of m.visit.row.vehicle)
    ++ (codes "\" d=\"M" ++ (decimal m.depart
    ++ (codes " 80H" ++ (decimal m.arrival
    ++ (codes "M" ++ (decimal m.leave
    ++ (codes " 80H" ++ (decimal m.back
    ++ (codes "\"/><path class=\"q c" ++ (decimal (colour_of m.visit.row.vehicle)
    ++ (codes "\" d=\"M" ++ (decimal m.arrival
    ++ (codes " 80H" ++ (decimal m.early
    ++ (codes "\"/><rect class=\"f" ++ (decimal (colour_of m.visit.row.vehicle)
    ++ (codes "\" y=\"30\" height=\"100\" x=\"" ++ (decimal m.early
    ++ (codes "\" width=\"" ++ (decimal (m.leave - m.early)
    ++ (codes "\"/><path class=\"v c" ++ (decimal (colour_of m.visit.row.vehicle)
    ++ (codes "\" d=\"M" ++ (decimal m.early ++ codes " 15V145\"/></g>\n")))))))))))))))))))))))))))))))))

unfoldable pub lane_text : Lane → List ℕ
lane_text m = lane_open m ++ (stop_note m.visit ++ lane_end m)

-- a mark
abbrev pub mark_text : Mark → List ℕ
mark_text (marks.Leg m) = leg_text m
mark_text (marks.Depot m) = depot_text m
mark_text (marks.Stop m) = stop_text m
mark_text (marks.Open m) = open_text m
mark_text (marks.Label m) = label_text m
mark_text (marks.Entry m) = entry_text m
mark_text (marks.Tick m) = tick_text m
mark_text (marks.Lane m) = lane_text m

-- ---- the picture

-- the size, and the name as the title
unfoldable pub size_text : Layout → List ℕ
size_text l = codes "<svg xmlns=\"http://www.w3.org/2000/svg\" width=\"1280\" height=\"" ++ (decimal ((l.bottom + 400) / 10)
    ++ (codes "\" viewBox=\"0 0 12800 " ++ (decimal (l.bottom + 400) ++ codes "\">\n<title>")))

unfoldable pub opening_text : Layout → List ℕ → List ℕ
opening_text l name = size_text l ++ (escaped name ++ codes "</title>\n")

-- the colours and the arrows of every picture, and the headings of its parts
unfoldable pub style_text : List ℕ
style_text = STYLE.now

unfoldable pub headings_text : List ℕ
headings_text = HEADINGS.now

-- the whole plan: what it costs, and how many customers are planned and are not
unfoldable pub sums_line : ℕ → ℕ → ℕ → List ℕ
sums_line planned unplanned cost = codes "</text>\n<text class=\"m\" x=\"200\" y=\"700\">cost " ++ (unit_text cost
    ++ (codes ", " ++ (decimal planned
    ++ (codes " customers planned, " ++ (decimal unplanned ++ codes " not planned</text>\n")))))

-- the name as the heading, and the whole plan
unfoldable pub heading_text : List ℕ → ℕ → ℕ → ℕ → List ℕ
heading_text name planned unplanned cost = codes "<text class=\"k\" x=\"200\" y=\"420\">"
    ++ (escaped name ++ sums_line planned unplanned cost)

-- the headings of the timelines
unfoldable pub lanes_heading : ℕ → List ℕ
lanes_heading y = codes "<text class=\"e\" x=\"650\" y=\"" ++ (decimal y
    ++ (codes "\">vehicle</text>\n<text class=\"e\" x=\"1350\" y=\"" ++ (decimal y ++ codes "\">customer</text>\n")))

-- all that stands before the marks
unfoldable pub head_text : Layout → List ℕ → List Row → List Tour → List ℕ
head_text l name rows tours = opening_text l name
    ++ (style_text ++ (heading_text name (length rows - open_count rows) (open_count rows) (cost_of tours) ++ (headings_text ++ lanes_heading (l.top - 100))))

abbrev pub end_text : List ℕ
end_text = codes "</svg>\n"

-- the picture of a listing: its marks, one after another
abbrev pub svg_text : Places → List Row → List ℕ
svg_text p rows = head_text (layout_of p rows (tours_of p rows)) p.name rows (tours_of p rows) ++ (flat_map mark_text (picture_of p rows) ++ end_text)
