use Rattle.std.proofs.Common.{◌≡◌, ℕ, List, ap, ap₂, sym, subst, ◌∙◌}
use Rattle.permission_table.specs.Bits.{SessionAccess}
use Rattle.permission_table.specs.Rights.{revoked_from}
use Rattle.permission_table.specs.Tables.{TablesState}
use Rattle.permission_table.specs.Compiled.{AreCompiled}
use Rattle.permission_table.proofs.RightsLaws.{with_all, revoked_tables}
use Rattle.permission_table.proofs.tables.Tables.revoke.Goals as goal

pub returns-clause-compiled : goal.returns-clause-compiled
returns-clause-compiled c before range are after =
    let q = c.args.policy.now in
    let old : TablesState = c.args.self.now in
    let new : TablesState = record { customers = c.self.inside.customers; vehicles = c.self.inside.vehicles; rows = c.revoke_all.new.rows.entries; room = c.revoke_all.new.rows.room } in
    let f : ℕ → SessionAccess → SessionAccess = revoked_from q c.slot_or_zero-slot.result c.args.operation in
    let is : new ≡ with_all old f =
    ap₂ (λ (es : List (ℕ × SessionAccess)) (n : ℕ). record { customers = c.self.inside.customers; vehicles = c.self.inside.vehicles; rows = es; room = n }) c.revoke_all.ensures.rows c.revoke_all.ensures.room
    ∙ ap (λ (t : TablesState). with_all t f) c.self.view_is in
    subst (λ (t : TablesState). AreCompiled t q) (sym is)
    (revoked_tables old before c.args.role c.args.operation range c.slot_or_zero-slot.result are q after c.requires.sizes c.slot_or_zero-slot.ensures)
