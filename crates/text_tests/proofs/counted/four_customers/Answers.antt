use Rattle.std.proofs.Common.{rules, ◌+◌, ◌*◌, [], ◌∷◌, refl}
use borrow.Pointer.Called.{post_made}
use Rattle.callback_store.specs.Boxed.{post_of_closure}
use Rattle.callback_store.specs.Closures.{small_at}
use Rattle.text_tests.proofs.counted.four_customers.OwnLists.{own-1, at-1-1, own-2, at-2-1}
use Rattle.text_tests.proofs.counted.four_customers.Goals as goal

pub new-demand-requires-clause-table : goal.new-demand-requires-clause-table
new-demand-requires-clause-table g c =
    let m = c.into_dyn_box.ensures.1 in (
      0 ∷ 4 ∷ 3 ∷ 3 ∷ 5 ∷ [],
      record {
        sized = refl;
        answered = λ i h. ∣ post_of_closure own-1 at-1-1 m (i, tt) _ (search rules) ∣₁;
        alone = λ i r h p. let q = post_made own-1 (own-1.entry at-1-1) at-1-1 refl _ _ _ m (i, tt) r p in search rules;
        small = λ i h. small_at (0 ∷ 4 ∷ 3 ∷ 3 ∷ 5 ∷ []) i refl;
      },
    )

pub new-travel-requires-clause-table : goal.new-travel-requires-clause-table
new-travel-requires-clause-table g c =
    let m = c.into_dyn_box-2.ensures.1 in (
      0 ∷ 28 ∷ 84 ∷ 141 ∷ 50 ∷ 28 ∷ 0 ∷ 56 ∷ 113 ∷ 22 ∷ 84 ∷ 56 ∷ 0 ∷ 56 ∷ 36 ∷ 141 ∷ 113 ∷ 56 ∷ 0 ∷ 92 ∷ 50 ∷ 22 ∷ 36 ∷ 92 ∷ 0 ∷ [],
      record {
        sized = refl;
        answered = λ i j h k. ∣ post_of_closure own-2 at-2-1 m (i, (j, tt)) _ (search rules) ∣₁;
        alone = λ i j r h k p. let q = post_made own-2 (own-2.entry at-2-1) at-2-1 refl _ _ _ m (i, (j, tt)) r p in search rules;
        small = λ i j h k. small_at (0 ∷ 28 ∷ 84 ∷ 141 ∷ 50 ∷ 28 ∷ 0 ∷ 56 ∷ 113 ∷ 22 ∷ 84 ∷ 56 ∷ 0 ∷ 56 ∷ 36 ∷ 141 ∷ 113 ∷ 56 ∷ 0 ∷ 92 ∷ 50 ∷ 22 ∷ 36 ∷ 92 ∷ 0 ∷ []) (i * 5 + j) refl;
      },
    )
