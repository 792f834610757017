use Rattle.std.proofs.Common.{◌≤◌, ℕ, arith, below_more, subst}
use Rattle.std.proofs.lemmas.List.{get_or_default}
use Rattle.neighbourhood_tests.proofs.plain.is_known.Goals as goal

pub loop-customer-preserved : goal.loop-customer-preserved
loop-customer-preserved c = below_more _ _ c.loop-customer.invariant (let test = c.if-customer-customers.false in omega arith)

pub returns : goal.returns
returns c = λ _. (
  λ k d h.
      let end = c.loop-customer-test.false in
      subst (λ (n : ℕ). n ≤ c.args.customers) (get_or_default c.args.route.now k 0 d h) (c.loop-customer.invariant k (omega arith)),
  let test = c.if-route-gt1000.false in omega arith,
)
