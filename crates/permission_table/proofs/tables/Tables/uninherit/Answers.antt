use Rattle.std.proofs.Common.{◌≡◌, ℕ, List, ap, ap₂, sym, subst, ◌∙◌}
use Rattle.permission_table.specs.Bits.{SessionAccess}
use Rattle.permission_table.specs.Rights.{refreshed}
use Rattle.permission_table.specs.Tables.{TablesState}
use Rattle.permission_table.specs.Compiled.{AreCompiled}
use Rattle.permission_table.proofs.RightsLaws.{with_all, uninherited_tables}
use Rattle.permission_table.proofs.tables.Tables.uninherit.Goals as goal

pub returns-clause-compiled : goal.returns-clause-compiled
returns-clause-compiled c before senior junior are after =
    let q = c.args.policy.now in
    let old : TablesState = c.args.self.now in
    let new : TablesState = record { customers = c.self.inside.customers; vehicles = c.self.inside.vehicles; rows = c.refresh_all.new.rows.entries; room = c.refresh_all.new.rows.room } in
    let f : ℕ → SessionAccess → SessionAccess = refreshed q in
    let is : new ≡ with_all old f =
    ap₂ (λ (es : List (ℕ × SessionAccess)) (n : ℕ). record { customers = c.self.inside.customers; vehicles = c.self.inside.vehicles; rows = es; room = n }) c.refresh_all.ensures.rows c.refresh_all.ensures.room
    ∙ ap (λ (t : TablesState). with_all t f) c.self.view_is in
    subst (λ (t : TablesState). AreCompiled t q) (sym is)
    (uninherited_tables old before senior junior are q after c.requires.sizes)
