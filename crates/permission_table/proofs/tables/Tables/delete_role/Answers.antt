use Rattle.std.proofs.Common.{◌≡◌, ℕ, List, ap, ap₂, sym, subst, ◌∙◌}
use Rattle.permission_table.specs.Bits.{SessionAccess}
use Rattle.permission_table.specs.Rights.{refreshed_without}
use Rattle.permission_table.specs.Tables.{TablesState}
use Rattle.permission_table.specs.Compiled.{AreCompiled}
use Rattle.permission_table.proofs.RightsLaws.{with_all, deleted_tables}
use Rattle.permission_table.proofs.tables.Tables.delete_role.Goals as goal

pub returns-clause-compiled : goal.returns-clause-compiled
returns-clause-compiled c before role are of after =
    let q = c.args.policy.now in
    let old : TablesState = c.args.self.now in
    let new : TablesState = record { customers = c.self.inside.customers; vehicles = c.self.inside.vehicles; rows = c.delete_all.new.rows.entries; room = c.delete_all.new.rows.room } in
    let f : ℕ → SessionAccess → SessionAccess = refreshed_without q c.args.slot in
    let is : new ≡ with_all old f =
    ap₂ (λ (es : List (ℕ × SessionAccess)) (n : ℕ). record { customers = c.self.inside.customers; vehicles = c.self.inside.vehicles; rows = es; room = n }) c.delete_all.ensures.rows c.delete_all.ensures.room
    ∙ ap (λ (t : TablesState). with_all t f) c.self.view_is in
    subst (λ (t : TablesState). AreCompiled t q) (sym is)
    (deleted_tables old before role are q c.args.slot after of c.requires.sizes)
