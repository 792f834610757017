use Rattle.std.proofs.Common.{◌≡◌, ℕ, true, sym, ap, ◌∙◌, subst}
use Rattle.std.proofs.lemmas.Bool.{and_parts}
use Rattle.role_hierarchy.specs.Order.{Order, stands, is_there, role_count}
use Rattle.policy_core.specs.Seen.{state_of}
use Rattle.policy_core.specs.State.{HasSlots}
use Rattle.policy_core.specs.KeptLaws.{fewer_pairs}
use Rattle.policy_core.proofs.FewerLaws.{narrowed_whole, authorized_none}
use Rattle.policy_core.proofs.FreeLaws.{bare_sessions}
use Rattle.policy_core.proofs.policy.Policy.delete_inheritance.Goals as goal

pub invariant_of-self : goal.invariant_of-self
invariant_of-self c =
    let p = state_of c.self.inside in
    let order = c.delete_inheritance.new.self in
    let P : ℕ → Type 0 = λ used. HasSlots p.roles used in
    let slots : HasSlots p.roles order.roles = subst P (sym (ap (λ o. o.roles) c.in-Ok.ensures.ok)) c.self.invariant.slots in
    let within : (a b : ℕ) → stands order a b ≡ true → stands p.order a b ≡ true = λ a b h. (and_parts _ _ (sym (c.in-Ok.ensures.pairs a b) ∙ h)).0 in
    narrowed_whole p c.self.invariant c.is_order.ensures p.users p.roles order p.grants c.narrow_all.new.sessions.entries c.is_order-2.ensures within
    (fewer_pairs order p.order c.is_order-2.ensures c.is_order.ensures within p.users) slots c.self.invariant.few_users
    (λ slot f.
    let free = c.self.invariant.free slot (sym (ap (λ (o : Order). is_there o slot) c.in-Ok.ensures.ok) ∙ f) in
    bare_sessions p.grants p.users p.sessions p.ssd p.dsd slot free c.narrow_all.new.sessions.entries
    (authorized_none p.users order slot p.sessions c.narrow_all.new.sessions.entries c.narrow_all.ensures free.sessions))
    (c.self.invariant.count ∙ sym (ap (λ (o : Order). role_count o) c.in-Ok.ensures.ok)) c.narrow_all.ensures
