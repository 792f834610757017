use Rattle.std.proofs.Common.{◌≡◌, ◌<◌, ap, ap₂, refl, subst, sym, ℕ, ◌+◌, ◌∙◌, cond, List, length, Option, Some, false}
use Rattle.std.specs.Prelude.{bytes_eq, is_none, is_some}
use Rattle.std.specs.Map.{lookup}
use Rattle.std.specs.Option.{option_map_or}
use Rattle.indexmap.specs.IndexMap.{insert_entry}
use Rattle.role_hierarchy.specs.Roles.{first_free, with_role}
use Rattle.role_hierarchy.specs.Order.{Order, role_count}
use Rattle.policy_core.specs.Seen.{state_of}
use Rattle.policy_core.specs.State.{HasSlots, IsPolicy, PolicyState, is_role}
use Rattle.policy_core.specs.Commands.{add_role_refusal, role_added, role_at}
use Rattle.policy_core.proofs.CommandLaws.{role_whole}
use Rattle.policy_core.proofs.EntryLaws.{length-new}
use Rattle.policy_core.proofs.SlotLaws.{slots_added}
use Rattle.policy_core.proofs.TestLaws.{holds, misses}
use Rattle.policy_core.proofs.policy.Policy.add_role.Goals as goal

pub invariant_of-self-2 : goal.invariant_of-self-2
invariant_of-self-2 c =
    let p = state_of c.self.inside in
    let slot = c.in-Ok.slot in
    let slots : HasSlots c.insert.new.self.entries (with_role p.order.roles slot) = slots_added p.roles c.insert.new.self.entries p.order.roles c.self.invariant.slots c.args.role slot (λ q. c.in-Ok-insert.ensures.updates.0 q ∙ ap (λ es. cond (bytes_eq c.args.role q) (Some slot) (lookup (bytes_eq q) es)) c.reserve.ensures.entries) c.in-Ok.ensures.fresh in
    let new : is_some (lookup (bytes_eq c.args.role) p.roles) ≡ false = sym c.contains_key.ensures ∙ c.if-contains_key.false in
    let counted : length c.insert.new.self.entries ≡ role_count c.add_role.new.self =
    ap length (c.in-Ok-insert.ensures.entries ∙ ap (λ es. insert_entry bytes_eq es c.args.role slot) c.reserve.ensures.entries)
    ∙ length-new bytes_eq p.roles c.args.role slot new ∙ ap (λ n. n + 1) c.self.invariant.count ∙ sym c.in-Ok.ensures.count in
    let P : ℕ → Type 0 = λ used. HasSlots c.insert.new.self.entries used in
    role_whole p c.self.invariant c.insert.new.self.entries c.add_role.new.self slot c.in-Ok.ensures.ok (subst P (sym (ap (λ o. o.roles) c.in-Ok.ensures.ok)) slots) counted

pub invariant_of-self : goal.invariant_of-self
invariant_of-self c = subst (λ (roles : List (List ℕ × ℕ)). IsPolicy (record (state_of c.self.inside) { roles = roles })) (sym c.reserve.ensures.entries) c.self.invariant

pub returns-then-is_err-clause-err : goal.returns-then-is_err-clause-err
returns-then-is_err-clause-err c = ap (λ (roles : List (List ℕ × ℕ)). record (state_of c.self.inside) { roles = roles }) c.reserve.ensures.entries ∙ c.self.view_is

pub invariant_of-self-in_default : goal.invariant_of-self-in_default
invariant_of-self-in_default c =
    subst IsPolicy (sym (ap₂ (λ (roles : List (List ℕ × ℕ)) (order : Order). record (state_of c.self.inside) { roles = roles; order = order }) c.reserve.ensures.entries c.in_default.ensures.err)) c.self.invariant

pub returns-in_default-clause-err : goal.returns-in_default-clause-err
returns-in_default-clause-err c =
    ap₂ (λ (roles : List (List ℕ × ℕ)) (order : Order). record (state_of c.self.inside) { roles = roles; order = order }) c.reserve.ensures.entries c.in_default.ensures.err ∙ c.self.view_is

pub returns-in_default-clause-refused : goal.returns-in_default-clause-refused
unfolding add_role_refusal
returns-in_default-clause-refused c =
    sym (misses _ (sym c.if-contains_key.false ∙ c.contains_key.ensures ∙ ap (λ (p : PolicyState). is_role p c.args.role) c.self.view_is)
    (holds _ (ap is_none (sym c.in_default.ensures.none) ∙ ap (λ (p : PolicyState). is_none (first_free p.order.roles)) c.self.view_is)))

pub returns-in_default-clause-full : goal.returns-in_default-clause-full
returns-in_default-clause-full c = λ full. ap (λ (p : PolicyState). length p.roles) (sym c.self.view_is) ∙ c.self.invariant.count ∙ c.in_default.ensures.refusal.1

pub returns-clause-ok : goal.returns-clause-ok
returns-clause-ok c =
    let p : PolicyState = state_of c.self.inside in
    ap₂ (λ (roles : List (List ℕ × ℕ)) (order : Order). record p { roles = roles; order = order })
    (c.in-Ok-insert.ensures.entries ∙ ap (λ es. insert_entry bytes_eq es c.args.role c.in-Ok.slot) c.reserve.ensures.entries) c.in-Ok.ensures.ok
    ∙ ap (λ (o : Option ℕ). option_map_or (role_at p c.args.role) o p) (sym c.in-Ok.ensures.least)
    ∙ ap (λ (q : PolicyState). role_added q c.args.role) c.self.view_is

pub returns-clause-allowed : goal.returns-clause-allowed
unfolding add_role_refusal
returns-clause-allowed c =
    sym (misses _ (sym c.if-contains_key.false ∙ c.contains_key.ensures ∙ ap (λ (p : PolicyState). is_role p c.args.role) c.self.view_is)
    (misses _ (ap is_none (sym c.in-Ok.ensures.least) ∙ ap (λ (p : PolicyState). is_none (first_free p.order.roles)) c.self.view_is) refl))

pub returns-clause-room : goal.returns-clause-room
returns-clause-room c =
    subst (λ (p : PolicyState). length p.roles < 256) c.self.view_is (subst (λ (n : ℕ). n < 256) (sym c.self.invariant.count) c.in-Ok.ensures.room)
