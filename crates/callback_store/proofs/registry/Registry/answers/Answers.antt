use Rattle.std.proofs.Common.{◌≡◌, ℕ, ◌+◌, ◌*◌, length, slice_index, subst, IfSome}
use Rattle.callback_store.specs.Registry.{tables}
use Rattle.callback_store.specs.Tables.{Table, slot_table, nodes_of, entry}
use Rattle.callback_store.proofs.Slots.{kept_at, kept_size}
use Rattle.callback_store.proofs.registry.Registry.answers.Goals as goal

pub returns-clause-sized : goal.returns-clause-sized
returns-clause-sized g c =
    let same = kept_size slot_table _ _ _ _ c.args.self.now.tables c.id.view_is c.requires.registered c.index.ensures in
    subst (λ (n : ℕ). IfSome c.answers.result (λ a. length a.now ≡ n * n)) same c.answers.ensures.sized

pub returns-clause-answers : goal.returns-clause-answers
returns-clause-answers g c =
    let same = kept_size slot_table _ _ _ _ c.args.self.now.tables c.id.view_is c.requires.registered c.index.ensures in
    let kept = kept_at slot_table _ _ _ _ c.id.view_is c.requires.registered c.index.ensures in
    subst (λ (t : Table). IfSome c.answers.result (λ a. (i j : ℕ) → slice_index a.now (i * nodes_of (tables c.args.self.now) + j) ≡ entry t i j)) kept
    (subst (λ (n : ℕ). IfSome c.answers.result (λ a. (i j : ℕ) → slice_index a.now (i * n + j) ≡ entry (slot_table c.index.result.now) i j)) same c.answers.ensures.answers)
