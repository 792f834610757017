use Rattle.std.proofs.Common.{ℕ, ◌≡◌, ◌≤◌, inl, inr, subst, arith, slice_index, length}
use Rattle.std.proofs.lemmas.Bool.{cases_lt}
use Rattle.std.proofs.lemmas.Grind.{common_steps}
use Rattle.way_costs.proofs.Loops.{passed}
use Rattle.std.proofs.lemmas.List.{get_or_default}
use Rattle.way_costs.proofs.table.most_of.Goals as goal

pub loop-k-preserved : goal.loop-k-preserved
loop-k-preserved c =
    let test = c.loop-k-test.true in
    let most = c.max-most.ensures in
    let grown : c.loop-k.most ≤ c.max-most.result = grind (arith, common_steps) in
    let here : slice_index c.args.edges.now c.loop-k.k ≤ c.max-most.result = grind (arith, common_steps) in
    record {
      above = λ n h. elim (cases_lt n c.loop-k.k) [
        | inl less ↦ let old = c.loop-k.invariant.above n less in omega arith
        | inr more ↦
            let same : c.loop-k.k ≡ n = omega arith in
            subst (λ (m : ℕ). slice_index c.args.edges.now m ≤ c.max-most.result) same here
      ];
      least = λ bound all.
          let old = c.loop-k.invariant.least bound all in
          let new = all c.loop-k.k 0 test in
          grind (arith, common_steps);
    }

pub loop-k-init : goal.loop-k-init
loop-k-init c = record { above = λ n h. absurd (omega arith); least = λ bound all. omega arith }

pub bounds-edges-k : goal.bounds-edges-k
bounds-edges-k c = c.loop-k-test.true

pub returns-clause-above : goal.returns-clause-above
returns-clause-above c = λ k d h. subst (λ (x : ℕ). x ≤ c.loop-k.most) (get_or_default c.args.edges.now k 0 d h) (c.loop-k.invariant.above k (passed k c.loop-k.k (length c.args.edges.now) h c.loop-k-test.false))

pub returns-clause-least : goal.returns-clause-least
returns-clause-least c = c.loop-k.invariant.least
