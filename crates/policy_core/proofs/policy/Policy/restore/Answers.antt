use Rattle.std.proofs.Common.{sym, refl, subst, ap, ◌∙◌}
use Rattle.policy_core.specs.Seen.{state_of}
use Rattle.policy_core.specs.State.{PolicyState, IsPolicy}
use Rattle.policy_core.specs.Parts.{DifferIn}
use Rattle.policy_core.proofs.CommandLaws.{same_parts}
use Rattle.policy_core.proofs.PartLaws.{moved, restored, restored_whole, order_copied, ssd_copied, dsd_copied, sessions_copied, on_err}
use Rattle.policy_core.proofs.policy.Policy.restore.Goals as goal

pub returns-clause-ok : goal.returns-clause-ok
returns-clause-ok c =
    let p = state_of c.self.inside in
    let q = state_of c.from.inside in
    let parts = c.args.parts in
    let differ : DifferIn parts p q = moved parts p q _ _ c.self.view_is c.from.view_is c.requires in
    same_parts q _ _ _ _ _ _ _
    (restored (λ m. m.entries) c.self.inside.users c.put.new.own c.in_ok-users.users parts.users q.users c.put.ensures c.in_ok-users.ensures.copy differ.users)
    (restored (λ m. m.entries) c.self.inside.roles c.put-2.new.own c.in_ok-roles.roles parts.roles q.roles c.put-2.ensures c.in_ok-roles.ensures.copy differ.roles)
    (restored_whole p.order c.put-3.new.own c.in_ok-order.order parts.order q.order c.put-3.ensures c.in_ok-order.ensures.copy differ.order)
    (c.restore_grants.ensures ∙ ap (λ (s : PolicyState). s.grants) (sym c.from.view_is))
    (restored_whole p.ssd c.put-4.new.own c.in_ok-ssd.ssd parts.ssd q.ssd c.put-4.ensures c.in_ok-ssd.ensures.copy differ.ssd)
    (restored_whole p.dsd c.put-5.new.own c.in_ok-dsd.dsd parts.dsd q.dsd c.put-5.ensures c.in_ok-dsd.ensures.copy differ.dsd)
    (restored (λ m. m.entries) c.self.inside.sessions c.put-6.new.own c.in_ok-sessions.sessions parts.sessions q.sessions c.put-6.ensures c.in_ok-sessions.ensures.copy differ.sessions)
    ∙ c.from.view_is

pub invariant_of-self : goal.invariant_of-self
invariant_of-self c =
    let p = state_of c.self.inside in
    let q = state_of c.from.inside in
    let parts = c.args.parts in
    let differ : DifferIn parts p q = moved parts p q _ _ c.self.view_is c.from.view_is c.requires in
    subst IsPolicy (sym (same_parts q _ _ _ _ _ _ _
    (restored (λ m. m.entries) c.self.inside.users c.put.new.own c.in_ok-users.users parts.users q.users c.put.ensures c.in_ok-users.ensures.copy differ.users)
    (restored (λ m. m.entries) c.self.inside.roles c.put-2.new.own c.in_ok-roles.roles parts.roles q.roles c.put-2.ensures c.in_ok-roles.ensures.copy differ.roles)
    (restored_whole p.order c.put-3.new.own c.in_ok-order.order parts.order q.order c.put-3.ensures c.in_ok-order.ensures.copy differ.order)
    (c.restore_grants.ensures ∙ ap (λ (s : PolicyState). s.grants) (sym c.from.view_is))
    (restored_whole p.ssd c.put-4.new.own c.in_ok-ssd.ssd parts.ssd q.ssd c.put-4.ensures c.in_ok-ssd.ensures.copy differ.ssd)
    (restored_whole p.dsd c.put-5.new.own c.in_ok-dsd.dsd parts.dsd q.dsd c.put-5.ensures c.in_ok-dsd.ensures.copy differ.dsd)
    (restored (λ m. m.entries) c.self.inside.sessions c.put-6.new.own c.in_ok-sessions.sessions parts.sessions q.sessions c.put-6.ensures c.in_ok-sessions.ensures.copy differ.sessions)))
    c.from.invariant

pub returns-in_err-dsd-clause-lacking : goal.returns-in_err-dsd-clause-lacking
returns-in_err-dsd-clause-lacking c = on_err _ (dsd_copied c.args.parts c.in_err-dsd.ensures.lacking)

pub returns-in_err-sessions-clause-lacking : goal.returns-in_err-sessions-clause-lacking
returns-in_err-sessions-clause-lacking c = on_err _ (sessions_copied c.args.parts c.in_err-sessions.ensures.lacking)

pub restore_grants-requires : goal.restore_grants-requires
restore_grants-requires c = (moved c.args.parts (state_of c.self.inside) c.args.from.now _ _ c.self.view_is refl c.requires).grants

pub returns-in_err-order-clause-lacking : goal.returns-in_err-order-clause-lacking
returns-in_err-order-clause-lacking c = on_err _ (order_copied c.args.parts c.in_err-order.ensures.lacking)

pub returns-in_err-ssd-clause-lacking : goal.returns-in_err-ssd-clause-lacking
returns-in_err-ssd-clause-lacking c = on_err _ (ssd_copied c.args.parts c.in_err-ssd.ensures.lacking)
