use Rattle.std.proofs.Common.{ℕ, List, ap, ◌∙◌}
use Rattle.policy_core.specs.Seen.{state_of}
use Rattle.policy_core.specs.State.{PolicyState, with_roles}
use Rattle.indexmap.specs.IndexMap.{set_value_at}
use Rattle.policy_core.proofs.CommandLaws.{roles_whole}
use Rattle.policy_core.proofs.PlaceLaws.{there_at, put_there}
use Rattle.policy_core.proofs.policy.Policy.put_roles.Goals as goal

pub invariant_of-self : goal.invariant_of-self
invariant_of-self c =
    let p = state_of c.self.inside in
    roles_whole p c.args.self.now c.self.view_is c.self.invariant c.args.user c.args.roles c.requires.used
    (there_at p c.args.self.now c.self.view_is c.args.user c.args.place c.requires.place c.in-Some.held.now c.in-Some.ensures.value) c.requires.whole
    (set_value_at p.users c.args.place c.args.roles) (put_there p c.args.self.now c.self.view_is c.args.user c.args.place c.requires.place c.args.roles)

pub returns : goal.returns
returns c =
    let p = state_of c.self.inside in
    ap (λ (users : List (List ℕ × ℕ)). record p { users = users }) (put_there p c.args.self.now c.self.view_is c.args.user c.args.place c.requires.place c.args.roles)
    ∙ ap (λ (q : PolicyState). with_roles q c.args.user c.args.roles) c.self.view_is
