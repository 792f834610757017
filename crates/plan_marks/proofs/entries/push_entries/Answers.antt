use Rattle.std.proofs.Common.{◌≡◌, ◌++◌, ℕ, append-nil, arith, length, subst, sym}
use Rattle.plan_marks.specs.Entries.{entries_before, entry_at}
use Rattle.plan_marks.specs.Joining.{map_joined}
use Rattle.plan_marks.proofs.entries.push_entries.Goals as goal

pub loop-k-preserved : goal.loop-k-preserved
loop-k-preserved c =
    map_joined (entry_at c.args.roads.now c.args.tours.now) c.args.marks.now.items c.loop-k.marks.items c.push.new.self.items c.entry_at.result c.loop-k.k c.loop-k.invariant c.in_ok-push.ensures.items c.entry_at.ensures

pub loop-k-init : goal.loop-k-init
loop-k-init c = sym (append-nil c.args.marks.now.items)

pub returns : goal.returns
returns c =
    let e : c.loop-k.k ≡ length c.args.tours.now = omega arith in
    subst (λ (n : ℕ). c.loop-k.marks.items ≡ c.args.marks.now.items ++ entries_before c.args.roads.now c.args.tours.now n) e c.loop-k.invariant
