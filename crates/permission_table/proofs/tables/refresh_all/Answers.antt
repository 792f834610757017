use Rattle.std.proofs.Common.{refl, ap, ◌∙◌, arith}
use Rattle.permission_table.specs.Rights.{refreshed, changed_at}
use Rattle.permission_table.proofs.PlaceLaws.{changed_none, changed_next, changed_past}
use Rattle.permission_table.proofs.tables.refresh_all.Goals as goal

pub loop-place-init : goal.loop-place-init
loop-place-init c = record { rows = changed_none (refreshed c.args.policy.now) c.args.rows.now.entries; room = refl }

pub loop-place-preserved : goal.loop-place-preserved
loop-place-preserved c = record {
  rows = c.refresh_at.ensures.rows ∙ ap (λ es. changed_at (refreshed c.args.policy.now) es c.loop-place.place) c.loop-place.invariant.rows ∙ changed_next (refreshed c.args.policy.now) c.args.rows.now.entries c.loop-place.place;
  room = c.refresh_at.ensures.room ∙ c.loop-place.invariant.room;
}

pub returns-clause-rows : goal.returns-clause-rows
returns-clause-rows c =
    c.loop-place.invariant.rows
    ∙ changed_past (refreshed c.args.policy.now) c.args.rows.now.entries c.loop-place.place (omega (arith, c.loop-place-test.false, c.len-place-end.ensures.len))
