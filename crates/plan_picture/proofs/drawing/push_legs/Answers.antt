use Rattle.plan_picture.specs.Marks.{leg_in, leg_home}
use Rattle.plan_picture.proofs.Writing.{behind}
use Rattle.plan_picture.proofs.drawing.push_legs.Goals as goal

pub returns : goal.returns
returns c =
    let p = c.args.roads.now in
    let l = c.args.layout.now in
    let v = c.args.visit.now in
    rw (← c.if-not-is_planned.ensures)
    (behind c.push_leg_home.result c.args.marks.now.items (leg_in p l v) (leg_home p l v) c.push_leg_in.new.marks.items
    c.push_leg_home.new.marks.items c.in_ok-push_leg_in.ensures c.push_leg_home.ensures)
