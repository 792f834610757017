use Rattle.std.proofs.Common.{◌≡◌, ℕ, ◌+◌, ◌<◌, List, length, subst, sym, ap, ◌∙◌, Global}
use Rattle.std.proofs.lemmas.List.{length-map}
use Rattle.std.specs.declared.sync.Arc.{Arc}
use Rattle.plan_core.specs.Plan.{PlanState, IsPlan, AreApart, former, routes_of, changes_of, with_routes, with_stamps}
use Rattle.plan_core.specs.Homes.{AreHomes}
use Rattle.plan_core.proofs.Kept.{replaced_kept, written, kept_at}
use Rattle.plan_core.proofs.plan.Plan.replace.Goals as goal

pub invariant_of-self : goal.invariant_of-self
invariant_of-self c =
    let changes = changes_of c.args.changes.items in
    let routes : routes_of c.exchange_all.new.routes ≡ with_routes changes (routes_of c.self.inside.routes.items) =
    (rw c.deref_mut-4.ensures.value at c.exchange_all.ensures.routes) ∙ ap (λ (xs : List (Arc (List ℕ) Global)). with_routes changes (routes_of xs)) c.deref_mut.ensures.value in
    let stamps : c.exchange_all.new.stamps ≡ with_stamps changes (c.self.inside.version + 1) c.self.inside.stamps.items =
    (rw c.deref_mut-4.ensures.value at c.exchange_all.ensures.stamps) ∙ ap (λ (xs : List ℕ). with_stamps changes (c.self.inside.version + 1) xs) c.deref_mut-2.ensures.value in
    let homes : AreHomes (with_routes changes (routes_of c.self.inside.routes.items)) c.exchange_all.new.homes =
    subst (λ (rs : List (List ℕ)). AreHomes rs c.exchange_all.new.homes) routes c.exchange_all.ensures.homes in
    let sound : IsPlan c.self.inside.customers (with_routes changes (routes_of c.self.inside.routes.items)) =
    subst (λ (s : PlanState). IsPlan s.customers (with_routes changes s.routes)) (sym c.self.view_is) c.requires.plan in
    let room : c.self.inside.version < 16777216 = subst (λ (s : PlanState). s.version < 16777216) (sym c.self.view_is) c.requires.room in
    let routes_long : length c.exchange_all.new.routes ≡ c.self.inside.routes.len = c.exchange_all.auto.routes ∙ c.deref_mut.ensures.len in
    let stamps_long : length c.exchange_all.new.stamps ≡ c.self.inside.stamps.len = c.exchange_all.auto.stamps ∙ c.deref_mut-2.ensures.len in
    let homes_long : length c.exchange_all.new.homes ≡ c.self.inside.homes.len = c.exchange_all.auto.homes ∙ c.deref_mut-3.ensures.len in
    let homes_same : length c.exchange_all.new.homes ≡ length c.self.inside.homes.items = c.exchange_all.auto.homes ∙ ap length c.deref_mut-3.ensures.value in
    kept_at c.self.inside.customers (c.self.inside.version + 1) _ (with_routes changes (routes_of c.self.inside.routes.items)) _
    (with_stamps changes (c.self.inside.version + 1) c.self.inside.stamps.items) _ c.exchange_all.new.homes
    (ap routes_of (written c.self.inside.routes.len c.exchange_all.new.routes c.self.inside.routes.items routes_long) ∙ routes)
    (written c.self.inside.stamps.len c.exchange_all.new.stamps c.self.inside.stamps.items stamps_long ∙ stamps)
    (written c.self.inside.homes.len c.exchange_all.new.homes c.self.inside.homes.items homes_long)
    (replaced_kept changes _ c.self.inside.homes.items c.exchange_all.new.homes c.self.invariant sound room homes homes_same)

pub exchange_all-requires-clause-apart : goal.exchange_all-requires-clause-apart
exchange_all-requires-clause-apart c =
    let long : length c.args.self.now.routes ≡ length c.self.inside.routes.items =
    sym (ap (λ (s : PlanState). length s.routes) c.self.view_is) ∙ length-map c.self.inside.routes.items (λ r. r.value) in
    rw (c.deref_mut.ensures.value, c.deref_mut-4.ensures.value) (subst (λ (n : ℕ). AreApart n (changes_of c.args.changes.items)) long c.requires.changes.apart)

pub exchange_all-requires-clause-plan : goal.exchange_all-requires-clause-plan
exchange_all-requires-clause-plan c =
    let changes = changes_of c.args.changes.items in
    let sound : IsPlan c.self.inside.customers (with_routes changes (routes_of c.self.inside.routes.items)) =
    subst (λ (s : PlanState). IsPlan s.customers (with_routes changes s.routes)) (sym c.self.view_is) c.requires.plan in
    rw (c.deref_mut.ensures.value, c.deref_mut-3.ensures.value, c.deref_mut-4.ensures.value, c.self.invariant.counted) sound

pub exchange_all-requires-clause-homes : goal.exchange_all-requires-clause-homes
exchange_all-requires-clause-homes c = rw (c.deref_mut.ensures.value, c.deref_mut-3.ensures.value) c.self.invariant.homes

pub exchange_all-requires-clause-stamps : goal.exchange_all-requires-clause-stamps
exchange_all-requires-clause-stamps c =
    rw (c.deref_mut.ensures.value, c.deref_mut-2.ensures.value) (c.self.invariant.sizes.stamps ∙ length-map c.self.inside.routes.items (λ r. r.value))

pub returns-clause-former : goal.returns-clause-former
returns-clause-former c =
    let routes = ap routes_of c.deref_mut.ensures.value ∙ ap (λ (s : PlanState). s.routes) c.self.view_is in
    ap changes_of (written c.args.changes.len c.exchange_all.new.changes c.args.changes.items (c.exchange_all.auto.changes ∙ c.deref_mut-4.ensures.len))
    ∙ c.exchange_all.ensures.former
    ∙ ap (λ (rs : List (List ℕ)). former rs (changes_of c.deref_mut-4.result.now)) routes
    ∙ ap (λ (xs : List (ℕ × Arc (List ℕ) Global)). former c.args.self.now.routes (changes_of xs)) c.deref_mut-4.ensures.value
