use Rattle.std.proofs.Common.{[], ◌∷◌, ◌++◌, length}
use Rattle.plan_marks.specs.Customers.{customers_before}
use Rattle.plan_picture.specs.Marks.{legs_before, labels_before, depot_mark}
use Rattle.plan_picture.proofs.Writing.{behind, joined}
use Rattle.plan_picture.proofs.drawing.push_map.Goals as goal

pub returns : goal.returns
returns c =
    let p = c.args.roads.now in
    let l = c.args.layout.now in
    let rows = c.args.rows.now in
    let customers = customers_before p l.frame l.most rows (length rows) in
    let depot = depot_mark p l ∷ [] in
    let labels = labels_before p l rows (length rows) in
    let legs = c.push_all_legs.new.marks.items in
    let last = c.push_labels.new.marks.items in
    behind c.push_labels.result c.args.marks.now.items (legs_before p l rows (length rows)) (customers ++ (depot ++ labels)) legs last
    c.in_ok-push_all_legs.ensures
    (joined c.push_labels.result legs customers depot labels c.push_customers.new.marks.items c.push_mark.new.marks.items last
    c.in_ok-push_customers.ensures (rw (← c.depot_mark.ensures) c.in_ok-push_mark.ensures) c.push_labels.ensures)
