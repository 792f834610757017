use Rattle.std.proofs.Common.{◌≡◌, ◌++◌}
use Rattle.plan_marks.specs.Customers.{customers_before}
use Rattle.plan_marks.proofs.customers.push_customers.Given as goal

abbrev pub invariant-loop-k : goal.invariant-loop-k
invariant-loop-k l = l.marks.items ≡ l.fn.marks.items ++ customers_before l.roads l.frame l.most l.rows l.k
