use Rattle.std.proofs.Common.{◌≡◌, ◌+◌, ◌++◌, drop}
use Rattle.move_core.specs.Touched.{touches}
use Rattle.move_core.proofs.parts.push_touches.Given as goal

-- the touches so far and those of what is left are all
abbrev pub invariant-loop-customer : goal.invariant-loop-customer
invariant-loop-customer l = record {
  whole : l.touched.items ++ touches l.vehicle l.next (drop l.customer-index l.customers) ≡ l.fn.touched.items ++ touches l.vehicle l.place l.customers;
  counted : l.next ≡ l.place + l.customer-index;
}
