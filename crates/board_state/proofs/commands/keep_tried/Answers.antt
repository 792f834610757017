use Rattle.std.proofs.Common.{◌≡◌, None, sym, ap, subst, ◌∙◌}
use Rattle.std.proofs.Math.Logic.{∥∥₁_map}
use Rattle.role_hierarchy.specs.Below.{IsOrder}
use Rattle.policy_core.specs.State.{PolicyState, slot_of}
use Rattle.policy_core.specs.Commands.{granted, revoked, inherited, uninherited, role_gone}
use Rattle.rbac_core.specs.declared.command.Command.{Command}
use Rattle.rbac_core.specs.Step.{after, refusal_of}
use Rattle.rbac_core.specs.Tried.{Tried}
use Rattle.permission_table.specs.Tables.{TablesState}
use Rattle.permission_table.specs.Compiled.{AreCompiled}
use Rattle.board_state.proofs.commands.keep_tried.Goals as goal

pub returns-in-GrantPermission-clause-made : goal.returns-in-GrantPermission-clause-made
returns-in-GrantPermission-clause-made c =
    let a = c.args in
    let p : PolicyState = a.policy.now.now in
    let made = ap (λ (t : Tried). t.now) c.keep.ensures.kept ∙ c.requires.tried in
    let q : PolicyState = c.policy.result.now in
    let next : q ≡ after p a.command.now = c.policy.ensures ∙ made in
    let given : q ≡ granted p c.in-GrantPermission.role c.in-GrantPermission.operation c.in-GrantPermission.range = next ∙ ap (after p) c.in-GrantPermission.is in
    record {
      ready = tt;
      made = made;
      compiled = ∥∥₁_map c.requires.compiled (λ (are : AreCompiled a.tables.now p).
          subst (λ (x : PolicyState). AreCompiled c.grant.new.self x) next (c.grant.ensures.compiled p are (subst (λ (m : Command). refusal_of p m ≡ None) c.in-GrantPermission.is c.requires.allowed) given));
      sizes = record {
        customers = c.sizes_stay.ensures.customers p a.command.now ∙ c.requires.sizes.customers ∙ sym (ap (λ (t : TablesState). t.customers) c.grant.ensures.kept);
        vehicles = c.sizes_stay.ensures.vehicles p a.command.now ∙ c.requires.sizes.vehicles ∙ sym (ap (λ (t : TablesState). t.vehicles) c.grant.ensures.kept);
      };
    }

pub returns-in-RevokePermission-clause-made : goal.returns-in-RevokePermission-clause-made
returns-in-RevokePermission-clause-made c =
    let a = c.args in
    let p : PolicyState = a.policy.now.now in
    let made = ap (λ (t : Tried). t.now) c.keep-in-RevokePermission.ensures.kept ∙ c.requires.tried in
    let q : PolicyState = c.policy-in-RevokePermission.result.now in
    let next : q ≡ after p a.command.now = c.policy-in-RevokePermission.ensures ∙ made in
    let given : q ≡ revoked p c.in-RevokePermission.role c.in-RevokePermission.operation c.in-RevokePermission.range = next ∙ ap (after p) c.in-RevokePermission.is in
    record {
      ready = tt;
      made = made;
      compiled = ∥∥₁_map c.requires.compiled (λ (are : AreCompiled a.tables.now p).
          subst (λ (x : PolicyState). AreCompiled c.revoke.new.self x) next (c.revoke.ensures.compiled p c.in-RevokePermission.range are given));
      sizes = record {
        customers = c.sizes_stay.ensures.customers p a.command.now ∙ c.requires.sizes.customers ∙ sym (ap (λ (t : TablesState). t.customers) c.revoke.ensures.kept);
        vehicles = c.sizes_stay.ensures.vehicles p a.command.now ∙ c.requires.sizes.vehicles ∙ sym (ap (λ (t : TablesState). t.vehicles) c.revoke.ensures.kept);
      };
    }

pub returns-in-AddInheritance-clause-made : goal.returns-in-AddInheritance-clause-made
returns-in-AddInheritance-clause-made c =
    let a = c.args in
    let p : PolicyState = a.policy.now.now in
    let made = ap (λ (t : Tried). t.now) c.keep-in-AddInheritance.ensures.kept ∙ c.requires.tried in
    let q : PolicyState = c.policy-in-AddInheritance-2.result.now in
    let next : q ≡ after p a.command.now = c.policy-in-AddInheritance-2.ensures ∙ made in
    let given : q ≡ inherited p c.in-AddInheritance.senior c.in-AddInheritance.junior = next ∙ ap (after p) c.in-AddInheritance.is in
    record {
      ready = tt;
      made = made;
      compiled = ∥∥₁_map c.requires.compiled (λ (are : AreCompiled a.tables.now p).
          subst (λ (x : PolicyState). AreCompiled c.inherit.new.self x) next (c.inherit.ensures.compiled p are (subst (λ (x : PolicyState). IsOrder x.order) c.policy-in-AddInheritance.ensures c.is_policy.ensures.order) given));
      sizes = record {
        customers = c.sizes_stay.ensures.customers p a.command.now ∙ c.requires.sizes.customers ∙ sym (ap (λ (t : TablesState). t.customers) c.inherit.ensures.kept);
        vehicles = c.sizes_stay.ensures.vehicles p a.command.now ∙ c.requires.sizes.vehicles ∙ sym (ap (λ (t : TablesState). t.vehicles) c.inherit.ensures.kept);
      };
    }

pub returns-in-DeleteInheritance-clause-made : goal.returns-in-DeleteInheritance-clause-made
returns-in-DeleteInheritance-clause-made c =
    let a = c.args in
    let p : PolicyState = a.policy.now.now in
    let made = ap (λ (t : Tried). t.now) c.keep-in-DeleteInheritance.ensures.kept ∙ c.requires.tried in
    let q : PolicyState = c.policy-in-DeleteInheritance.result.now in
    let next : q ≡ after p a.command.now = c.policy-in-DeleteInheritance.ensures ∙ made in
    let given : q ≡ uninherited p c.in-DeleteInheritance.senior c.in-DeleteInheritance.junior = next ∙ ap (after p) c.in-DeleteInheritance.is in
    record {
      ready = tt;
      made = made;
      compiled = ∥∥₁_map c.requires.compiled (λ (are : AreCompiled a.tables.now p).
          subst (λ (x : PolicyState). AreCompiled c.uninherit.new.self x) next (c.uninherit.ensures.compiled p c.in-DeleteInheritance.senior c.in-DeleteInheritance.junior are given));
      sizes = record {
        customers = c.sizes_stay.ensures.customers p a.command.now ∙ c.requires.sizes.customers ∙ sym (ap (λ (t : TablesState). t.customers) c.uninherit.ensures.kept);
        vehicles = c.sizes_stay.ensures.vehicles p a.command.now ∙ c.requires.sizes.vehicles ∙ sym (ap (λ (t : TablesState). t.vehicles) c.uninherit.ensures.kept);
      };
    }

pub returns-in-DeleteRole-clause-made : goal.returns-in-DeleteRole-clause-made
returns-in-DeleteRole-clause-made c =
    let a = c.args in
    let p : PolicyState = a.policy.now.now in
    let made = ap (λ (t : Tried). t.now) c.keep-in-DeleteRole.ensures.kept ∙ c.requires.tried in
    let q : PolicyState = c.policy-in-DeleteRole-2.result.now in
    let next : q ≡ after p a.command.now = c.policy-in-DeleteRole-2.ensures ∙ made in
    let given : q ≡ role_gone p c.in-DeleteRole.role = next ∙ ap (after p) c.in-DeleteRole.is in
    record {
      ready = tt;
      made = made;
      compiled = ∥∥₁_map c.requires.compiled (λ (are : AreCompiled a.tables.now p).
          subst (λ (x : PolicyState). AreCompiled c.delete_role.new.self x) next (c.delete_role.ensures.compiled p c.in-DeleteRole.role are (c.slot_or_zero-slot.ensures ∙ ap (λ (x : PolicyState). slot_of x c.in-DeleteRole.role) c.policy-in-DeleteRole.ensures) given));
      sizes = record {
        customers = c.sizes_stay.ensures.customers p a.command.now ∙ c.requires.sizes.customers ∙ sym (ap (λ (t : TablesState). t.customers) c.delete_role.ensures.kept);
        vehicles = c.sizes_stay.ensures.vehicles p a.command.now ∙ c.requires.sizes.vehicles ∙ sym (ap (λ (t : TablesState). t.vehicles) c.delete_role.ensures.kept);
      };
    }
