use Rattle.std.proofs.Common.{◌≡◌, ◌++◌, ℕ, ap, append-nil, arith, length, subst, sym, ◌∙◌}
use Rattle.plan_sums.specs.Visits.{visit_at}
use Rattle.plan_marks.specs.Customers.{customer_mark, customers_before}
use Rattle.plan_marks.specs.Joining.{map_joined}
use Rattle.plan_marks.proofs.customers.push_customers.Goals as goal

pub loop-k-preserved : goal.loop-k-preserved
loop-k-preserved c =
    map_joined (λ k. customer_mark c.args.roads.now c.args.frame.now c.args.most (visit_at c.args.roads.now c.args.rows.now k)) c.args.marks.now.items c.loop-k.marks.items c.push.new.self.items c.customer_mark.result c.loop-k.k c.loop-k.invariant c.in_ok-push.ensures.items (c.customer_mark.ensures ∙ ap (customer_mark c.args.roads.now c.args.frame.now c.args.most) c.visit_at.ensures.value)

pub loop-k-init : goal.loop-k-init
loop-k-init c = sym (append-nil c.args.marks.now.items)

pub returns : goal.returns
returns c =
    let e : c.loop-k.k ≡ length c.args.rows.now = omega arith in
    subst (λ (n : ℕ). c.loop-k.marks.items ≡ c.args.marks.now.items ++ customers_before c.args.roads.now c.args.frame.now c.args.most c.args.rows.now n) e c.loop-k.invariant
