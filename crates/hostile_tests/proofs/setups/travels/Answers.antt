use Rattle.std.proofs.Common.{rules, refl, [], ◌∷◌}
use Rattle.hostile_tests.proofs.Small.{small_as}
use Rattle.hostile_tests.proofs.setups.travels.Goals as goal

pub new-requires-2-clause-limited : goal.new-requires-2-clause-limited
new-requires-2-clause-limited c =
    small_as c.in_ok-answers-2.answers.value.items
    (0 ∷ 28 ∷ 84 ∷ 141 ∷ 50 ∷ 28 ∷ 0 ∷ 56 ∷ 113 ∷ 22 ∷ 84 ∷ 56 ∷ 0 ∷ 56 ∷ 36 ∷ 141 ∷ 113 ∷ 56 ∷ 0 ∷ 92 ∷ 50 ∷ 22 ∷ 36 ∷ 92 ∷ 0 ∷ [])
    (search rules) refl
