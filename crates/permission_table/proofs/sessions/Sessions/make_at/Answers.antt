use Rattle.std.proofs.Common.{◌≡◌, Option, sym, ap, ap₂, subst, ◌∙◌, ◌-◌, min}
use Rattle.indexmap.specs.IndexMap.{spare}
use Rattle.indexmap.specs.Layout.{length-set_value_at}
use Rattle.role_hierarchy.specs.Roles.{has}
use Rattle.std.specs.Prelude.{unwrap_or}
use Rattle.permission_table.specs.Bits.{SessionAccess}
use Rattle.permission_table.specs.Reaching.{SessionsState}
use Rattle.permission_table.specs.Rights.{made_anew, changed_at}
use Rattle.permission_table.proofs.PlaceLaws.{changed_by_writing, unchanged_at, unchanged_past, value_at, no_entry}
use Rattle.permission_table.proofs.ReachLaws.{mark_at, place_within, turned_written}
use Rattle.permission_table.proofs.RightsLaws.{made_none, made_some, made_reach}
use Rattle.permission_table.proofs.sessions.Sessions.make_at.Goals as goal

pub returns-in_default-clause-rows : goal.returns-in_default-clause-rows
returns-in_default-clause-rows c =
    subst (λ (s : SessionsState). s.entries ≡ changed_at (made_anew c.args.policy.now) s.entries c.args.place) c.self.view_is
    (unchanged_past (made_anew c.args.policy.now) c.self.inside.rows.entries c.args.place (sym c.in_default.ensures.entry))

pub returns-in_default-reached_roles-clause-rows : goal.returns-in_default-reached_roles-clause-rows
returns-in_default-reached_roles-clause-rows c =
    let session = c.in-Some.session.now in
    let access : SessionAccess = c.in-Some.found.now in
    subst (λ (s : SessionsState). s.entries ≡ changed_at (made_anew c.args.policy.now) s.entries c.args.place) c.self.view_is
    (unchanged_at (made_anew c.args.policy.now) c.self.inside.rows.entries c.args.place session access (sym c.in-Some.ensures.entry)
    (made_none c.args.policy.now session access c.in_default-reached_roles.ensures))

pub returns-clause-rows : goal.returns-clause-rows
returns-clause-rows c =
    let p = c.args.policy.now in
    let es = c.self.inside.rows.entries in
    let session = c.in-Some.session.now in
    let access : SessionAccess = c.in-Some.found.now in
    let roles = c.in-Some-reached_roles.roles in
    let at = sym c.in-Some.ensures.entry in
    let found : SessionAccess = c.in-Some-get_index_mut.found.now in
    let same : found ≡ access = ap (λ (o : Option SessionAccess). unwrap_or o found) (c.in-Some-get_index_mut.ensures.value ∙ value_at es c.args.place session access at) in
    changed_by_writing (made_anew p) es c.args.place session access c.make.new.self at
    (c.make.ensures ∙ made_some p session access roles c.in-Some-reached_roles.ensures)
    ∙ ap (λ (s : SessionsState). changed_at (made_anew p) s.entries c.args.place) c.self.view_is

pub turn-requires-clause-from : goal.turn-requires-clause-from
turn-requires-clause-from c role small =
    mark_at c.self.inside.reaching c.self.inside.rows.entries c.args.place c.in-Some.session.now role c.in-Some.found.now c.self.invariant (sym c.in-Some.ensures.entry) small
    ∙ ap (λ n. has n role) (sym c.reach-before.ensures)

pub turn-requires-clause-place : goal.turn-requires-clause-place
turn-requires-clause-place c = place_within c.self.inside.reaching c.self.inside.rows.entries c.args.place c.in-Some.session.now c.in-Some.found.now c.self.invariant (sym c.in-Some.ensures.entry)

pub invariant_of-self-2 : goal.invariant_of-self-2
invariant_of-self-2 c =
    let p = c.args.policy.now in
    let roles = c.in-Some-reached_roles.roles in
    turned_written c.self.inside.reaching c.turn.new.self c.self.inside.rows.entries c.args.place c.in-Some.session.now roles c.in-Some.found.now c.make.new.self (sym c.in-Some.ensures.entry)
    (ap (λ (x : SessionAccess). x.reach) c.make.ensures ∙ made_reach p roles) c.self.invariant c.turn.ensures.places c.turn.ensures.marks

pub returns-clause-room : goal.returns-clause-room
returns-clause-room c =
    ap₂ (λ m n. min (spare c.self.inside.rows) (m - n)) c.turn.ensures.places (length-set_value_at c.self.inside.rows.entries c.args.place c.make.new.self) ∙ ap (λ (s : SessionsState). s.room) c.self.view_is

pub returns-in_default-get_index_mut-clause-rows : goal.returns-in_default-get_index_mut-clause-rows
returns-in_default-get_index_mut-clause-rows c =
    unchanged_past (made_anew c.args.policy.now) c.self.inside.rows.entries c.args.place (no_entry c.self.inside.rows.entries c.args.place (sym c.in_default-get_index_mut.ensures.value))
    ∙ ap (λ (s : SessionsState). changed_at (made_anew c.args.policy.now) s.entries c.args.place) c.self.view_is
