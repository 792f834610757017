use Rattle.std.proofs.Common.{ℕ, subst, IsTrue}
use Rattle.callback_store.specs.Registry.{tables}
use Rattle.callback_store.specs.Tables.{Table, slot_table, nodes_of, IsSymmetric}
use Rattle.callback_store.proofs.Slots.{kept_at, kept_size}
use Rattle.callback_store.proofs.registry.Registry.is_symmetric.Goals as goal

pub returns : goal.returns
returns g c =
    let same = kept_size slot_table _ _ _ _ c.args.self.now.tables c.id.view_is c.requires.registered c.index.ensures in
    let kept = kept_at slot_table _ _ _ _ c.id.view_is c.requires.registered c.index.ensures in
    subst (λ (t : Table). IsTrue c.is_symmetric.result → IsSymmetric (nodes_of (tables c.args.self.now)) t) kept
    (subst (λ (n : ℕ). IsTrue c.is_symmetric.result → IsSymmetric n (slot_table c.index.result.now)) same c.is_symmetric.ensures)
