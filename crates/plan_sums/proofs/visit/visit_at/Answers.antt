use Rattle.std.proofs.Common.{◌≡◌, ◌<◌, ℕ, Bool, true, false, List, Option, Some, None, if◌then◌else◌, length, arith, subst, sym}
use Rattle.std.specs.Prelude.{IfSome, ◌==◌, ◌-◌}
use Rattle.plan_sums.specs.declared.row.Row.{Row}
use Rattle.plan_sums.specs.Places.{Places}
use Rattle.plan_sums.specs.Rows.{AreRows, row_at}
use Rattle.plan_sums.specs.Visits.{from_at, goes_on}
use Rattle.plan_sums.proofs.visit.visit_at.Goals as goal

-- the node before is one of the instance
chosen : (n before : ℕ) (one on : Bool) → 0 < n → before < n → IfSome (if one then Some 0 else (if on then Some before else None)) (λ i. i < n)
chosen n before true on some lt = some
chosen n before false true some lt = lt
chosen n before false false some lt = tt

from_known : (p : Places) (rows : List Row) (k : ℕ) (from : Option ℕ) → AreRows p rows → k < length rows → from ≡ from_at rows k → IfSome from (λ i. i < length p.nodes)
from_known p rows k from h lt e =
    subst (λ (o : Option ℕ). IfSome o (λ i. i < length p.nodes)) (sym e)
    (chosen (length p.nodes) (row_at rows (k - 1)).customer ((row_at rows k).place == 1) (goes_on rows k)
    (omega (arith, (h.each k lt).few_customers)) (h.each (k - 1) (omega arith)).few_customers)

pub way_from-requires-clause-to : goal.way_from-requires-clause-to
way_from-requires-clause-to c = (c.requires.rows.each c.args.k c.requires.within).few_customers

pub way_from-requires-clause-from : goal.way_from-requires-clause-from
way_from-requires-clause-from c =
    from_known c.args.roads.now c.args.rows.now c.args.k c.from_node-from.result c.requires.rows c.requires.within c.from_node-from.ensures

pub leave-requires : goal.leave-requires
leave-requires c = c.node-node.ensures.service

pub returns-clause-value : goal.returns-clause-value
returns-clause-value c = cc

pub returns-clause-sound : goal.returns-clause-sound
returns-clause-sound c = record {
  customer = (c.requires.rows.each c.args.k c.requires.within).few_customers;
  from = from_known c.args.roads.now c.args.rows.now c.args.k c.from_node-from.result c.requires.rows c.requires.within c.from_node-from.ensures;
  way = c.way_from.ensures.small;
  home = c.travel.ensures.small;
  leave = c.leave.ensures.small;
}
