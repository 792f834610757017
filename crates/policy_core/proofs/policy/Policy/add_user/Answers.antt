use Rattle.std.proofs.Common.{ℕ, ◌<◌, List, length, bytes_eq, refl, ap, arith}
use Rattle.indexmap.specs.IndexMap.{insert_entry}
use Rattle.policy_core.specs.Seen.{state_of}
use Rattle.policy_core.specs.State.{PolicyState, IsPolicy}
use Rattle.policy_core.proofs.CommandLaws.{user_whole}
use Rattle.policy_core.proofs.Inserted.{either}
use Rattle.policy_core.proofs.policy.Policy.add_user.Goals as goal

pub invariant_of-self : goal.invariant_of-self
invariant_of-self c =
    let p = state_of c.self.inside in
    let here = c.len.ensures.len in
    let below = c.if-len-ge-MOST_USERS.false in
    let same = ap (λ (q : PolicyState). length q.users) c.self.view_is in
    let room : length c.args.self.now.users < 1024 = omega (arith, here, below, same) in
    either (λ (users : List (List ℕ × ℕ)). IsPolicy (record p { users = users })) c.add_new.result p.users (insert_entry bytes_eq p.users c.args.user 0) c.add_new.new.users.entries
    c.add_new.ensures.added c.add_new.ensures.kept c.add_new.ensures.err c.self.invariant
    (user_whole p c.args.self.now c.self.view_is c.self.invariant c.args.user (insert_entry bytes_eq p.users c.args.user 0) 0 room refl refl c.are_sets.ensures.kept)
