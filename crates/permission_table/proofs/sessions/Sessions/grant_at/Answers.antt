use Rattle.std.proofs.Common.{sym, ap, ◌∙◌, ◌-◌, min, length}
use Rattle.indexmap.specs.IndexMap.{spare}
use Rattle.indexmap.specs.Layout.{length-set_value_at}
use Rattle.permission_table.specs.Bits.{SessionAccess}
use Rattle.permission_table.specs.Reaching.{SessionsState}
use Rattle.permission_table.specs.Rights.{granted_to, changed_at}
use Rattle.permission_table.proofs.PlaceLaws.{changed_by_writing, unchanged_past, entry_at, no_entry}
use Rattle.permission_table.proofs.ReachLaws.{kept_reached}
use Rattle.permission_table.proofs.RightsLaws.{granted_reach}
use Rattle.permission_table.proofs.sessions.Sessions.grant_at.Goals as goal

pub returns-clause-rows : goal.returns-clause-rows
returns-clause-rows c =
    let es = c.self.inside.rows.entries in
    let f = granted_to c.args.policy.now c.args.role c.args.operation c.args.words in
    let e = entry_at es c.args.place c.in-Some.found.now (sym c.in-Some.ensures.value) in
    changed_by_writing f es c.args.place e.0 c.in-Some.found.now c.grant.new.self e.1 (c.grant.ensures e.0)
    ∙ ap (λ (s : SessionsState). changed_at f s.entries c.args.place) c.self.view_is

pub invariant_of-self-2 : goal.invariant_of-self-2
invariant_of-self-2 c =
    let es = c.self.inside.rows.entries in
    let e = entry_at es c.args.place c.in-Some.found.now (sym c.in-Some.ensures.value) in
    kept_reached c.self.inside.reaching es c.args.place e.0 c.in-Some.found.now c.grant.new.self e.1
    (ap (λ (x : SessionAccess). x.reach) (c.grant.ensures e.0) ∙ granted_reach c.args.policy.now c.args.role c.args.operation c.args.words e.0 c.in-Some.found.now) c.self.invariant

pub returns-in_default-clause-rows : goal.returns-in_default-clause-rows
returns-in_default-clause-rows c =
    let f = granted_to c.args.policy.now c.args.role c.args.operation c.args.words in
    unchanged_past f c.self.inside.rows.entries c.args.place (no_entry c.self.inside.rows.entries c.args.place (sym c.in_default.ensures.value))
    ∙ ap (λ (s : SessionsState). changed_at f s.entries c.args.place) c.self.view_is

pub returns-clause-room : goal.returns-clause-room
returns-clause-room c =
    ap (λ n. min (spare c.self.inside.rows) (length c.self.inside.reaching - n)) (length-set_value_at c.self.inside.rows.entries c.args.place c.grant.new.self) ∙ ap (λ (s : SessionsState). s.room) c.self.view_is
