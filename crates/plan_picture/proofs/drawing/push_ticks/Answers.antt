use Rattle.std.proofs.Common.{◌≡◌, ◌++◌, ℕ, append-nil, arith, subst, sym}
use Rattle.plan_picture.specs.Marks.{tick_at, ticks_before}
use Rattle.plan_marks.specs.Joining.{map_joined}
use Rattle.plan_picture.proofs.drawing.push_ticks.Goals as goal

pub loop-i-preserved : goal.loop-i-preserved
loop-i-preserved c =
    map_joined (tick_at c.args.layout.now) c.args.marks.now.items c.loop-i.marks.items c.push_mark.new.marks.items c.tick_at.result
    c.loop-i.i c.loop-i.invariant c.in_ok-push_mark.ensures c.tick_at.ensures

pub loop-i-init : goal.loop-i-init
loop-i-init c = sym (append-nil c.args.marks.now.items)

pub returns : goal.returns
returns c =
    let e : c.loop-i.i ≡ 5 = omega arith in
    subst (λ (n : ℕ). c.loop-i.marks.items ≡ c.args.marks.now.items ++ ticks_before c.args.layout.now n) e c.loop-i.invariant
