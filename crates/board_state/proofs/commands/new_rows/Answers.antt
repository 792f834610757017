use Rattle.std.proofs.Common.{◌≡◌, ℕ, List, false, nat_eq, sym, ap, subst, ◌∙◌}
use Rattle.std.specs.List.{list_any}
use Rattle.std.proofs.Math.Logic.{∥∥₁_map}
use Rattle.policy_core.specs.State.{PolicyState}
use Rattle.rbac_core.specs.Affected.{affected_sessions}
use Rattle.rbac_core.specs.Step.{after}
use Rattle.permission_table.specs.Tables.{TablesState, RowsState}
use Rattle.permission_table.specs.Compiled.{AreCompiled, WillBeCompiled, SameAccessBut, HasSizes}
use Rattle.board_state.proofs.Commanding.{if_ok}
use Rattle.board_state.proofs.commands.new_rows.Goals as goal

pub returns-clause-compiled : goal.returns-clause-compiled
returns-clause-compiled c =
    let a = c.args in
    let old = c.policy-old.result.now in
    let new = c.tried-new.result.now in
    let next = c.tried-new.ensures ∙ c.requires.tried in
    let sessions : c.deref.result.now ≡ affected_sessions old a.command.now new = c.deref.ensures.value ∙ c.in_ok-sessions.ensures in
    let same : SameAccessBut c.deref.result.now old new = record {
      reach = λ session out. c.access_stays.ensures.reach session (subst (λ (xs : List ℕ). list_any (nat_eq session) xs ≡ false) sessions out);
      access = λ session out operation object.
          c.access_stays.ensures.access session (subst (λ (xs : List ℕ). list_any (nat_eq session) xs ≡ false) sessions out) operation object;
    } in
    if_ok _ (λ (rows : RowsState). ∥ WillBeCompiled rows (after a.policy.now.now a.command.now) ∥₁) c.rebuild.result
    (λ rows will. ∥∥₁_map c.requires.compiled (λ (are : AreCompiled a.tables.now a.policy.now.now).
    subst (λ (p : PolicyState). WillBeCompiled rows p) next
    (will old (subst (λ (p : PolicyState). AreCompiled a.tables.now p) (sym c.policy-old.ensures) are) same)))
    c.rebuild.ensures.compiled

pub returns-clause-sizes : goal.returns-clause-sizes
returns-clause-sizes c =
    let a = c.args in
    let tables : c.rebuild.new.self ≡ record a.tables.now { room = c.rebuild.new.self.room } = c.rebuild.ensures.kept in
    if_ok _ (λ (rows : RowsState). HasSizes (after a.policy.now.now a.command.now) c.rebuild.new.self) c.rebuild.result
    (λ rows of. record {
      customers = c.sizes_stay.ensures.customers a.policy.now.now a.command.now ∙ c.requires.sizes.customers ∙ sym (ap (λ (t : TablesState). t.customers) tables);
      vehicles = c.sizes_stay.ensures.vehicles a.policy.now.now a.command.now ∙ c.requires.sizes.vehicles ∙ sym (ap (λ (t : TablesState). t.vehicles) tables);
    })
    c.rebuild.ensures.of
