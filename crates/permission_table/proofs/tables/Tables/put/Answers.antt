use Rattle.std.proofs.Common.{◌≡◌, ℕ, List, ap, ◌∙◌, sym}
use Rattle.std.specs.Prelude.{unwrap_or, nat_eq}
use Rattle.std.specs.Map.{lookup}
use Rattle.permission_table.specs.Bits.{SessionAccess}
use Rattle.permission_table.specs.Tables.{TablesState, RowsState}
use Rattle.permission_table.proofs.CompiledLaws.{put_compiled}
use Rattle.permission_table.proofs.tables.Tables.put.Goals as goal

pub returns-clause-compiled : goal.returns-clause-compiled
returns-clause-compiled c =
    let rows : RowsState = c.args.rows in
    let old : TablesState = c.args.self.now in
    let entries : List (ℕ × SessionAccess) = c.put_all.new.rows.entries in
    let new : TablesState = record { customers = c.self.inside.customers; vehicles = c.self.inside.vehicles; rows = entries; room = c.put_all.new.rows.room } in
    let was : rows.of ≡ old = c.requires in
    let customers : rows.of.customers ≡ c.self.inside.customers = ap (λ (t : TablesState). t.customers) (was ∙ sym c.self.view_is) in
    let vehicles : rows.of.vehicles ≡ c.self.inside.vehicles = ap (λ (t : TablesState). t.vehicles) (was ∙ sym c.self.view_is) in
    put_compiled rows new customers vehicles (λ q.
    c.put_all.ensures q
    ∙ ap (λ (r : RowsState). unwrap_or (lookup (nat_eq q) r.changes) (lookup (nat_eq q) c.self.inside.rows.entries)) c.rows.view_is
    ∙ ap (λ (t : TablesState). unwrap_or (lookup (nat_eq q) rows.changes) (lookup (nat_eq q) t.rows)) (c.self.view_is ∙ sym was))
