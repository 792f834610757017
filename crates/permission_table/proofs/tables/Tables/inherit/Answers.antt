use Rattle.std.proofs.Common.{◌≡◌, ℕ, List, ap, ap₂, sym, subst, ◌∙◌, arith}
use Rattle.permission_table.specs.Bits.{SessionAccess}
use Rattle.permission_table.specs.Rights.{refreshed_above}
use Rattle.permission_table.specs.Tables.{TablesState}
use Rattle.permission_table.specs.Compiled.{AreCompiled}
use Rattle.permission_table.proofs.RightsLaws.{with_all, inherited_tables}
use Rattle.permission_table.proofs.tables.Tables.inherit.Goals as goal

pub returns-clause-compiled : goal.returns-clause-compiled
returns-clause-compiled c before are is_order after =
    let q = c.args.policy.now in
    let old : TablesState = c.args.self.now in
    let new : TablesState = record { customers = c.self.inside.customers; vehicles = c.self.inside.vehicles; rows = c.inherit_all.new.rows.entries; room = c.inherit_all.new.rows.room } in
    let f : ℕ → SessionAccess → SessionAccess = refreshed_above q c.slot_or_zero-above.result in
    let is : new ≡ with_all old f =
    ap₂ (λ (es : List (ℕ × SessionAccess)) (n : ℕ). record { customers = c.self.inside.customers; vehicles = c.self.inside.vehicles; rows = es; room = n }) c.inherit_all.ensures.rows c.inherit_all.ensures.room
    ∙ ap (λ (t : TablesState). with_all t f) c.self.view_is in
    subst (λ (t : TablesState). AreCompiled t q) (sym is)
    (inherited_tables old before c.args.senior c.args.junior are q c.slot_or_zero-above.result c.slot_or_zero-below.result after c.requires.sizes is_order (omega arith) c.slot_or_zero-above.ensures (omega arith) c.slot_or_zero-below.ensures)
