use Rattle.std.proofs.Common.{refl, ◌∙◌}
use Rattle.permission_table.specs.Rights.{refreshed_above}
use Rattle.permission_table.proofs.PlaceLaws.{changed_none}
use Rattle.permission_table.proofs.ReachLaws.{changed_upto, changed_last}
use Rattle.permission_table.proofs.RightsLaws.{above_same}
use Rattle.permission_table.proofs.tables.inherit_all.Goals as goal

pub loop-place-init : goal.loop-place-init
loop-place-init c = record { rows = changed_none (refreshed_above c.args.policy.now c.args.role) c.args.rows.now.entries; room = refl }

pub loop-place-preserved : goal.loop-place-preserved
loop-place-preserved c = record {
  rows = changed_upto (refreshed_above c.args.policy.now c.args.role) c.args.role (above_same c.args.policy.now c.args.role) c.args.rows.now.entries c.loop-place.rows.entries c.inherit_at.new.self.entries c.loop-place.from c.in-Some.place
      c.loop-place.invariant.rows c.in-Some.ensures.from c.in-Some.ensures.between c.inherit_at.ensures.rows;
  room = c.inherit_at.ensures.room ∙ c.loop-place.invariant.room;
}

pub returns-clause-rows : goal.returns-clause-rows
returns-clause-rows c =
    changed_last (refreshed_above c.args.policy.now c.args.role) c.args.role (above_same c.args.policy.now c.args.role) c.args.rows.now.entries c.loop-place.rows.entries c.loop-place.from c.loop-place.invariant.rows c.in_default.ensures.none
