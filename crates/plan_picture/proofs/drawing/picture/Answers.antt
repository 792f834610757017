use Rattle.std.proofs.Common.{◌∙◌, ◌++◌, ap, length, List}
use Rattle.plan_marks.specs.declared.mark.Mark.{Mark}
use Rattle.plan_marks.specs.Entries.{entries_before}
use Rattle.plan_picture.specs.Marks.{ticks_before, lanes_before, map_of}
use Rattle.plan_picture.proofs.Writing.{three}
use Rattle.plan_picture.proofs.drawing.picture.Goals as goal

pub returns : goal.returns
returns c =
    let p = c.args.roads.now in
    let l = c.args.layout.now in
    let rows = c.args.rows.now in
    let tours = c.args.tours.now in
    let map = map_of p l rows in
    let entries = entries_before p tours (length tours) in
    let ticks = ticks_before l 5 in
    let lanes = lanes_before p l rows (length rows) in
    three c.push_map.new.marks.items entries ticks lanes c.push_entries.new.marks.items c.push_ticks.new.marks.items
    c.push_lanes.new.marks.items c.in_ok-push_entries.ensures c.in_ok-push_ticks.ensures c.in_ok-push_lanes.ensures
    ∙ ap (λ (marks : List Mark). marks ++ (entries ++ (ticks ++ lanes)))
    (c.in_ok-push_map.ensures ∙ ap (λ (marks : List Mark). marks ++ map) c.new-marks.ensures.items)
