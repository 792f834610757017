use Rattle.std.proofs.Common.{Fits, w32, ℕ, ◌≤◌, ◌+◌, ◌*◌, ◌%◌, refl, rules, arith}
use borrow.Pointer.Called.{post_made}
use Rattle.callback_store.specs.Boxed.{post_of_closure}
use Rattle.callback_store.specs.Closures.{pairs_of_function, table_of_function}
use Rattle.neighbourhood_tests.proofs.Sizes.{customers_fit, nodes_fit}
use Rattle.neighbourhood_tests.proofs.tests.compare_setup.OwnLists.{own-1, at-1-1, at-1-2, own-2, at-2-1}
use Rattle.neighbourhood_tests.proofs.tests.compare_setup.Goals as goal

pub new-ways-requires-clause-table : goal.new-ways-requires-clause-table
new-ways-requires-clause-table g c =
    let m = c.into_dyn_box.ensures.1 in (
      _,
      pairs_of_function _ _ (λ i j. (31 * i + 17 * j + c.below-first.result % 1000) % 101)
          (λ i j h k. ∣ post_of_closure own-1 at-1-1 m (i, (j, tt)) _ (search rules) ∣₁)
          (λ i j r h k p. let q = post_made own-1 (own-1.entry at-1-1) at-1-1 refl _ _ _ m (i, (j, tt)) r p in search rules)
          (λ i j h k. omega arith),
    )

pub new-drives-requires-clause-table : goal.new-drives-requires-clause-table
new-drives-requires-clause-table g c =
    let m = c.into_dyn_box-2.ensures.1 in (
      _,
      pairs_of_function _ _ (λ i j. (19 * i + 43 * j + c.below-second.result % 1000) % 101)
          (λ i j h k. ∣ post_of_closure own-1 at-1-2 m (i, (j, tt)) _ (search rules) ∣₁)
          (λ i j r h k p. let q = post_made own-1 (own-1.entry at-1-2) at-1-2 refl _ _ _ m (i, (j, tt)) r p in search rules)
          (λ i j h k. omega arith),
    )

pub new-wants-requires-clause-table : goal.new-wants-requires-clause-table
new-wants-requires-clause-table g c =
    let m = c.into_dyn_box-3.ensures.1 in (
      _,
      table_of_function _ _ (λ i. (3 * i + c.below-third.result % 1000) % 5)
          (λ i h. ∣ post_of_closure own-2 at-2-1 m (i, tt) _ (search rules) ∣₁)
          (λ i r h p. let q = post_made own-2 (own-2.entry at-2-1) at-2-1 refl _ _ _ m (i, tt) r p in search rules)
          (λ i h. omega arith),
    )

pub overflow_mul-nodes : goal.overflow_mul-nodes
overflow_mul-nodes g c = customers_fit c.args.sample.rooms c.requires.1

pub overflow_add-nodes : goal.overflow_add-nodes
overflow_add-nodes g c = nodes_fit c.args.sample.rooms c.requires.1
