use Rattle.std.proofs.Common.{sym, ap, ◌∙◌, slice_get}
use Rattle.role_hierarchy.specs.Roles.{has}
use Rattle.permission_table.specs.Reaching.{SessionsState}
use Rattle.permission_table.specs.Bits.{SessionAccess}
use Rattle.permission_table.specs.Rights.{refreshed, made_anew, refreshed_without}
use Rattle.permission_table.proofs.PlaceLaws.{changed_same, unchanged_past}
use Rattle.permission_table.proofs.RightsLaws.{without_so, without_not}
use Rattle.permission_table.proofs.sessions.Sessions.delete_at.Goals as goal

pub returns-in_default-clause-rows : goal.returns-in_default-clause-rows
returns-in_default-clause-rows c = unchanged_past (refreshed_without c.args.policy.now c.args.role) c.args.self.now.entries c.args.place (ap (λ (s : SessionsState). slice_get s.entries c.args.place) (sym c.self.view_is) ∙ sym c.in_default.ensures.entry)

pub returns-then-contains-clause-rows : goal.returns-then-contains-clause-rows
returns-then-contains-clause-rows c =
    let p = c.args.policy.now in
    let session = c.in-Some.field-0-0.now in
    let access : SessionAccess = c.in-Some.found.now in
    c.make_at.ensures.rows
    ∙ changed_same (made_anew p) (refreshed_without p c.args.role) c.args.self.now.entries c.args.place session access (ap (λ (s : SessionsState). slice_get s.entries c.args.place) (sym c.self.view_is) ∙ sym c.in-Some.ensures.entry)
    (without_so p session access c.args.role (sym (c.contains.ensures ∙ ap (λ n. has n c.args.role) c.reach.ensures) ∙ c.if-contains.true))

pub returns-else-contains-clause-rows : goal.returns-else-contains-clause-rows
returns-else-contains-clause-rows c =
    let p = c.args.policy.now in
    let session = c.in-Some.field-0-0.now in
    let access : SessionAccess = c.in-Some.found.now in
    c.refresh_at.ensures.rows
    ∙ changed_same (refreshed p) (refreshed_without p c.args.role) c.args.self.now.entries c.args.place session access (ap (λ (s : SessionsState). slice_get s.entries c.args.place) (sym c.self.view_is) ∙ sym c.in-Some.ensures.entry)
    (without_not p session access c.args.role (sym (c.contains.ensures ∙ ap (λ n. has n c.args.role) c.reach.ensures) ∙ c.if-contains.false))
