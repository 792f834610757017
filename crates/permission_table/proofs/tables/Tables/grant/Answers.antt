use Rattle.std.proofs.Common.{◌≡◌, ℕ, List, ap, ap₂, sym, subst, ◌∙◌, arith}
use Rattle.permission_core.specs.Objects.{is_bad_range}
use Rattle.policy_core.specs.State.{PolicyState}
use Rattle.permission_table.specs.Bits.{SessionAccess}
use Rattle.permission_table.specs.Rights.{granted_to}
use Rattle.permission_table.specs.Tables.{TablesState}
use Rattle.permission_table.specs.Compiled.{AreCompiled}
use Rattle.permission_table.proofs.RightsLaws.{with_all, granted_tables, good_range}
use Rattle.permission_table.proofs.tables.Tables.grant.Goals as goal

pub returns-clause-compiled : goal.returns-clause-compiled
returns-clause-compiled c before are free after =
    let q = c.args.policy.now in
    let old : TablesState = c.args.self.now in
    let new : TablesState = record { customers = c.self.inside.customers; vehicles = c.self.inside.vehicles; rows = c.grant_all.new.rows.entries; room = c.grant_all.new.rows.room } in
    let f : ℕ → SessionAccess → SessionAccess = granted_to q c.slot_or_zero-slot.result c.args.operation c.words_of-words.result in
    let is : new ≡ with_all old f =
    ap₂ (λ (es : List (ℕ × SessionAccess)) (n : ℕ). record { customers = c.self.inside.customers; vehicles = c.self.inside.vehicles; rows = es; room = n }) c.grant_all.ensures.rows c.grant_all.ensures.room
    ∙ ap (λ (t : TablesState). with_all t f) c.self.view_is in
    subst (λ (t : TablesState). AreCompiled t q) (sym is)
    (granted_tables old before c.args.role c.args.operation c.args.range c.slot_or_zero-slot.result are q c.words_of-words.result after c.requires.sizes (omega arith) c.slot_or_zero-slot.ensures
    (c.words_of-words.ensures.whole (
    ap₂ (λ k v. is_bad_range k v c.args.range)
    (ap (λ (t : TablesState). t.customers) c.self.view_is ∙ sym c.requires.sizes.customers ∙ ap (λ (x : PolicyState). x.customers) after)
    (ap (λ (t : TablesState). t.vehicles) c.self.view_is ∙ sym c.requires.sizes.vehicles ∙ ap (λ (x : PolicyState). x.vehicles) after)
    ∙ good_range before c.args.role c.args.range free)))
