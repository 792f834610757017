use Rattle.std.specs.Prelude.{string_bytes, length, ◌-◌, ◌++◌}
use Rattle.plan_picture.specs.Texts.{head_text, opening_text, style_text, heading_text, headings_text, lanes_heading}
use Rattle.plan_picture.proofs.Writing.{joined}
use Rattle.plan_picture.proofs.heading.push_head.Goals as goal

pub returns : goal.returns
unfolding head_text style_text headings_text
returns c =
    let heading = heading_text c.args.name.now (length c.args.rows.now - c.open_count-unplanned.result) c.open_count-unplanned.result c.cost.result in
    let lanes = lanes_heading c.saturating_sub.result in
    let middle = string_bytes c.push_text.new.out in
    let last = string_bytes c.push_lanes_heading.new.out in
    rw (← c.open_count-unplanned.ensures.value, ← c.cost.ensures, ← c.saturating_sub.ensures)
    (joined c.push_lanes_heading.result (string_bytes c.args.out.now) (opening_text c.args.layout.now c.args.name.now) style_text
    (heading ++ (headings_text ++ lanes)) (string_bytes c.push_opening.new.out) middle last c.in_ok-push_opening.ensures
    c.in_ok-push_text.ensures
    (joined c.push_lanes_heading.result middle heading headings_text lanes (string_bytes c.push_heading.new.out)
    (string_bytes c.push_text-2.new.out) last c.in_ok-push_heading.ensures c.in_ok-push_text-2.ensures c.push_lanes_heading.ensures))
