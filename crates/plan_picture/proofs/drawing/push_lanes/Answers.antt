use Rattle.std.proofs.Common.{◌≡◌, ◌++◌, ℕ, ap, append-nil, arith, length, subst, sym}
use Rattle.plan_sums.specs.Visits.{visit_at}
use Rattle.plan_picture.specs.Marks.{lanes_before, lanes_of}
use Rattle.plan_marks.specs.Joining.{flat_joined}
use Rattle.plan_picture.proofs.drawing.push_lanes.Goals as goal

pub loop-k-preserved : goal.loop-k-preserved
loop-k-preserved c =
    flat_joined (λ k. lanes_of c.args.layout.now k (visit_at c.args.roads.now c.args.rows.now k)) c.args.marks.now.items c.loop-k.marks.items c.push_lane.new.marks.items (lanes_of c.args.layout.now c.loop-k.k c.visit_at.result) c.loop-k.k c.loop-k.invariant c.in_ok-push_lane.ensures (ap (lanes_of c.args.layout.now c.loop-k.k) c.visit_at.ensures.value)

pub loop-k-init : goal.loop-k-init
loop-k-init c = sym (append-nil c.args.marks.now.items)

pub returns : goal.returns
returns c =
    let e : c.loop-k.k ≡ length c.args.rows.now = omega arith in
    subst (λ (n : ℕ). c.loop-k.marks.items ≡ c.args.marks.now.items ++ lanes_before c.args.roads.now c.args.layout.now c.args.rows.now n) e c.loop-k.invariant
