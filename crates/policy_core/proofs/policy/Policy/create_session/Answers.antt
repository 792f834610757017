use Rattle.std.proofs.Common.{ap, ◌∙◌, ◌+◌, refl}
use Rattle.std.specs.Prelude.{nat_eq}
use Rattle.indexmap.specs.IndexMap.{insert_entry}
use Rattle.policy_core.specs.Seen.{state_of}
use Rattle.policy_core.specs.Commands.{slots_of}
use Rattle.policy_core.proofs.CommandLaws.{opened_whole, chosen_there}
use Rattle.policy_core.proofs.policy.Policy.create_session.Goals as goal

pub invariant_of-self-2 : goal.invariant_of-self-2
invariant_of-self-2 c =
    let p = state_of c.self.inside in
    let used = chosen_there p c.args.self.now c.self.view_is c.self.invariant c.args.roles.now (slots_of c.args.self.now c.args.roles.now) c.in_ok-session.ensures.there refl in
    opened_whole p c.args.self.now c.self.view_is c.self.invariant (record { user = c.args.user; active = slots_of c.args.self.now c.args.roles.now }) used c.in_ok-session.ensures.few c.in_ok-session.ensures.whole c.insert.new.self.entries
    (c.in-Ok.ensures.entries ∙ ap (insert_entry nat_eq p.sessions (p.last + 1)) c.in_ok-session.ensures.session)
