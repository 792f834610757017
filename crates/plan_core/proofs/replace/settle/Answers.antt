use Rattle.std.proofs.Common.{◌-◌, ◌≤◌, ◌<◌, arith, length, slice_index_or}
use Rattle.std.proofs.lemmas.List.{take_more, take_all}
use Rattle.plan_core.proofs.Settled.{settled_more, others_more, get_or-set-le}
use Rattle.plan_core.proofs.replace.settle.Goals as goal

pub loop-customer-preserved : goal.loop-customer-preserved
loop-customer-preserved c =
    let i = c.loop-customer.invariant in
    let n = c.loop-customer.customer-index in
    let xs = c.args.customers.now in
    let x = slice_index_or xs n 0 in
    let within = c.requires n 0 c.loop-customer-test.true in
    let one : 1 ≤ x = within.0 in
    let top : x ≤ length c.args.homes.now = within.1 in
    let room : x - 1 < length c.loop-customer.homes = omega arith in
    record {
      settled = rw (take_more xs n 0 c.loop-customer-test.true) (settled_more _ c.loop-customer.homes x c.args.vehicle room i.settled);
      others = rw (take_more xs n 0 c.loop-customer-test.true) (others_more _ c.args.homes.now c.loop-customer.homes x c.args.vehicle one i.others);
      known = λ m h old k. get_or-set-le c.loop-customer.homes (x - 1) c.args.vehicle k m h (i.known m h old k);
    }

pub returns-clause-settled : goal.returns-clause-settled
returns-clause-settled c = rw (take_all _ _ c.loop-customer-test.false) at c.loop-customer.invariant.settled

pub returns-clause-others : goal.returns-clause-others
returns-clause-others c = rw (take_all _ _ c.loop-customer-test.false) at c.loop-customer.invariant.others
