use Rattle.std.proofs.Common.{◌≡◌, ◌++◌, ℕ, ap, append-nil, arith, length, subst, sym}
use Rattle.plan_sums.specs.Visits.{visit_at}
use Rattle.plan_picture.specs.Marks.{legs_before, legs_of}
use Rattle.plan_marks.specs.Joining.{flat_joined}
use Rattle.plan_picture.proofs.drawing.push_all_legs.Goals as goal

pub loop-k-preserved : goal.loop-k-preserved
loop-k-preserved c =
    flat_joined (λ k. legs_of c.args.roads.now c.args.layout.now (visit_at c.args.roads.now c.args.rows.now k)) c.args.marks.now.items c.loop-k.marks.items c.push_legs.new.marks.items (legs_of c.args.roads.now c.args.layout.now c.visit_at.result) c.loop-k.k c.loop-k.invariant c.in_ok-push_legs.ensures (ap (legs_of c.args.roads.now c.args.layout.now) c.visit_at.ensures.value)

pub loop-k-init : goal.loop-k-init
loop-k-init c = sym (append-nil c.args.marks.now.items)

pub returns : goal.returns
returns c =
    let e : c.loop-k.k ≡ length c.args.rows.now = omega arith in
    subst (λ (n : ℕ). c.loop-k.marks.items ≡ c.args.marks.now.items ++ legs_before c.args.roads.now c.args.layout.now c.args.rows.now n) e c.loop-k.invariant
