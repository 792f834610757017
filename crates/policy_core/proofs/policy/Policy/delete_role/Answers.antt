use Rattle.std.proofs.Common.{◌≡◌, ℕ, Bool, ◌&&◌, not, eqb, false, List, length, Some, true, map, sym, refl, ap, ap₂, ◌∙◌, subst, arith}
use Rattle.std.specs.Prelude.{bytes_eq}
use Rattle.std.specs.Map.{lookup}
use Rattle.std.proofs.lemmas.Bool.{and_parts, eq-eqb, false≢true}
use Rattle.role_hierarchy.specs.Roles.{has, without}
use Rattle.role_hierarchy.specs.Order.{Order, stands, role_count}
use Rattle.separation_core.specs.Groups.{is_in_some}
use Rattle.policy_core.specs.Seen.{state_of}
use Rattle.policy_core.specs.State.{PolicyState, HasSlots, authorized, slot_of}
use Rattle.role_hierarchy.specs.Below.{closed}
use Rattle.policy_core.specs.BreakLaws.{AreFewer}
use Rattle.policy_core.specs.Commands.{role_gone, role_gone_at, kept_authorized}
use Rattle.policy_core.specs.KeptLaws.{without_within, fewer_roles}
use Rattle.policy_core.proofs.CommandLaws.{same_parts}
use Rattle.policy_core.proofs.EntryLaws.{length-changed, length-gone}
use Rattle.policy_core.proofs.SlotLaws.{slots_removed}
use Rattle.policy_core.proofs.FewerLaws.{narrowed_whole, role_gone_bare}
use Rattle.policy_core.proofs.policy.Policy.delete_role.Goals as goal

pub returns-clause-ok : goal.returns-clause-ok
returns-clause-ok c =
    let p = state_of c.self.inside in
    let slot = c.in_ok-slot.slot in
    let role = c.args.role in
    let is_slot : slot ≡ slot_of p role = c.in_ok-slot.ensures.slot ∙ ap (λ (s : PolicyState). slot_of s role) (sym c.self.view_is) in
    let sessions = c.narrow_all.ensures ∙ ap₂ (λ us o. map (λ e. (e.0, kept_authorized us o e.1)) p.sessions) c.drop_from_all.ensures c.in-Ok.ensures.ok in
    same_parts (role_gone_at p role slot) _ _ _ _ _ _ _ c.drop_from_all.ensures c.shift_remove.ensures.entries c.in-Ok.ensures.ok c.clear.ensures refl refl sessions
    ∙ ap (role_gone_at p role) is_slot
    ∙ ap (λ (s : PolicyState). role_gone s role) c.self.view_is

in_no_pair : (t u v : Bool) → v ≡ true → (t && (not u && not v)) ≡ false
in_no_pair true true true h = refl
in_no_pair true false true h = refl
in_no_pair false u true h = refl
in_no_pair t u false h = absurd (false≢true h)

pub invariant_of-self : goal.invariant_of-self
invariant_of-self c =
    let p = state_of c.self.inside in
    let slot = c.in_ok-slot.slot in
    let role = c.args.role in
    let order = c.delete_role.new.self in
    let users = c.drop_from_all.new.users.entries in
    let roles = c.shift_remove.new.self.entries in
    let here : lookup (bytes_eq role) p.roles ≡ Some slot = ap (λ (s : PolicyState). lookup (bytes_eq role) s.roles) c.self.view_is ∙ c.in_ok-slot.ensures.here in
    let removed : HasSlots roles (without p.order.roles slot) = slots_removed p.roles roles p.order.roles c.self.invariant.slots role slot here c.shift_remove.ensures.updates.0 in
    let P : ℕ → Type 0 = λ used. HasSlots roles used in
    let slots : HasSlots roles order.roles = subst P (sym (ap (λ o. o.roles) c.in-Ok.ensures.ok)) removed in
    let within : (a b : ℕ) → stands order a b ≡ true → stands p.order a b ≡ true = λ a b h. (and_parts _ _ (sym (c.in-Ok.ensures.pairs a b) ∙ h)).0 in
    let left : (s : ℕ) → has order.roles s ≡ has (without p.order.roles slot) s = λ s. ap (λ (o : Order). has o.roles s) c.in-Ok.ensures.ok in
    let alone : (y : ℕ) → stands order y slot ≡ false = λ y. c.in-Ok.ensures.pairs y slot ∙ in_no_pair (stands p.order y slot) (eqb y slot) (eqb slot slot) (eq-eqb slot slot refl) in
    let no_ssd = ap (λ (s : PolicyState). is_in_some s.ssd slot) c.self.view_is ∙ c.in_ok-slot.ensures.no_ssd in
    let no_dsd = ap (λ (s : PolicyState). is_in_some s.dsd slot) c.self.view_is ∙ c.in_ok-slot.ensures.no_dsd in
    let counted : length roles ≡ role_count order = omega (arith, ap length c.shift_remove.ensures.entries, length-gone (bytes_eq role) p.roles slot here, c.self.invariant.count, c.in-Ok.ensures.count) in
    let Q : List (List ℕ × ℕ) → Type 0 = λ us. AreFewer (map (λ u. closed order u.1) us) (authorized p) in
    narrowed_whole p c.self.invariant c.is_order.ensures users roles order c.clear.new.self c.narrow_all.new.sessions.entries c.is_order-2.ensures within
    (subst Q (sym c.drop_from_all.ensures) (fewer_roles order p.order c.is_order-2.ensures c.is_order.ensures within (λ r. without r slot) (λ r q h. without_within r slot q h) p.users))
    slots (omega (arith, c.self.invariant.few_users, ap length c.drop_from_all.ensures, length-changed (λ r. without r slot) p.users))
    (role_gone_bare p c.self.invariant slot order c.is_order-2.ensures left alone no_ssd no_dsd c.clear.new.self users c.narrow_all.new.sessions.entries c.clear.ensures c.drop_from_all.ensures c.narrow_all.ensures)
    counted c.narrow_all.ensures
