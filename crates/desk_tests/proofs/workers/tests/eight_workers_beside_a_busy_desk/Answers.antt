use Rattle.std.proofs.Common.{◌+◌, ◌*◌, ◌%◌, refl, rules, arith}
use borrow.Pointer.Called.{post_made}
use Rattle.callback_store.specs.Boxed.{post_of_closure}
use Rattle.callback_store.specs.Closures.{pairs_of_function}
use Rattle.desk_tests.specs.Ways.{way}
use Rattle.desk_tests.proofs.workers.tests.eight_workers_beside_a_busy_desk.OwnLists.{own-1, at-1-1}
use Rattle.desk_tests.proofs.workers.tests.eight_workers_beside_a_busy_desk.Goals as goal

pub new-drives-requires-clause-table : goal.new-drives-requires-clause-table
new-drives-requires-clause-table g c =
    let m = c.into_dyn_box.ensures.1 in (
      _,
      pairs_of_function _ _ (λ i j. way (i % 1000 * 37 % 101) (j % 1000 * 37 % 101) + way (i % 1000 * 53 % 97) (j % 1000 * 53 % 97))
          (λ i j h k. ∣ post_of_closure own-1 at-1-1 m (i, (j, tt)) _ (search rules) ∣₁)
          (λ i j r h k p. let q = post_made own-1 (own-1.entry at-1-1) at-1-1 refl _ _ _ m (i, (j, tt)) r p in search rules)
          (λ i j h k. omega arith),
    )
