use Rattle.std.proofs.Common.{ℕ, List, ap, ◌∙◌}
use Rattle.role_hierarchy.specs.Roles.{with_role}
use Rattle.policy_core.specs.Seen.{state_of}
use Rattle.policy_core.specs.State.{PolicyState, held_by, slot_of, with_roles}
use Rattle.indexmap.specs.IndexMap.{set_value_at}
use Rattle.policy_core.proofs.CommandLaws.{roles_whole}
use Rattle.policy_core.proofs.PlaceLaws.{there_at, given_at}
use Rattle.policy_core.proofs.policy.Policy.give_role.Goals as goal

pub invariant_of-self : goal.invariant_of-self
invariant_of-self c =
    let p = state_of c.self.inside in
    let now = c.args.self.now in
    roles_whole p now c.self.view_is c.self.invariant c.args.user (with_role (held_by now c.args.user) (slot_of now c.args.role)) c.requires.used
    (there_at p now c.self.view_is c.args.user c.args.place c.requires.place c.in-Some.held.now c.in-Some.ensures.value) c.requires.whole
    (set_value_at p.users c.args.place c.insert.new.self)
    (given_at p now c.self.view_is c.args.user c.args.place c.requires.place c.args.role c.args.slot c.in-Some.held.now c.insert.new.self c.requires.slot c.in-Some.ensures.value c.insert.ensures)

pub returns : goal.returns
returns c =
    let p = state_of c.self.inside in
    let now = c.args.self.now in
    ap (λ (users : List (List ℕ × ℕ)). record p { users = users })
    (given_at p now c.self.view_is c.args.user c.args.place c.requires.place c.args.role c.args.slot c.in-Some.held.now c.insert.new.self c.requires.slot c.in-Some.ensures.value c.insert.ensures)
    ∙ ap (λ (q : PolicyState). with_roles q c.args.user (with_role (held_by now c.args.user) (slot_of now c.args.role))) c.self.view_is
