use Rattle.std.proofs.Common.{rules, ◌+◌, ◌-◌, ◌*◌, refl, arith}
use borrow.Pointer.Called.{post_made}
use Rattle.callback_store.specs.Boxed.{post_of_closure}
use Rattle.callback_store.specs.Closures.{pairs_of_function, table_of_function}
use Rattle.plan_tests.proofs.callbacks.registers_both_kinds.OwnLists.{own-1, at-1-1, own-2, at-2-1}
use Rattle.plan_tests.proofs.callbacks.registers_both_kinds.Goals as goal

pub new-steps-requires-clause-table : goal.new-steps-requires-clause-table
new-steps-requires-clause-table g c =
    let m = c.into_dyn_box.ensures.1 in (
      _,
      pairs_of_function _ _ (λ i j. 30 * (j - i) + 10 * (i - j))
          (λ i j h k. ∣ post_of_closure own-1 at-1-1 m (i, (j, tt)) _ (search rules) ∣₁)
          (λ i j r h k p. let q = post_made own-1 (own-1.entry at-1-1) at-1-1 refl _ _ _ m (i, (j, tt)) r p in search rules)
          (λ i j h k. omega arith),
    )

pub new-weights-requires-clause-table : goal.new-weights-requires-clause-table
new-weights-requires-clause-table g c =
    let m = c.into_dyn_box-2.ensures.1 in (
      _,
      table_of_function _ _ (λ i. 7 * i)
          (λ i h. ∣ post_of_closure own-2 at-2-1 m (i, tt) _ (search rules) ∣₁)
          (λ i r h p. let q = post_made own-2 (own-2.entry at-2-1) at-2-1 refl _ _ _ m (i, tt) r p in search rules)
          (λ i h. omega arith),
    )
