use Rattle.std.proofs.Common.{ap, ◌∙◌, arith, ◌||◌, ◌&&◌, get_or}
use Rattle.std.specs.Prelude.{◌==◌}
use Rattle.role_hierarchy.specs.Roles.{has}
use Rattle.separation_core.proofs.IndexLaws.{upto_none, upto_all, mark_more, none_more}
use Rattle.separation_core.proofs.index.mark.Goals as goal

pub loop-role-init : goal.loop-role-init
loop-role-init c = (omega arith, λ role q h. none_more (has (get_or c.args.rows.now role 0) q) (q == c.args.place) _ (upto_none c.args.roles role))

pub loop-role-preserved : goal.loop-role-preserved
loop-role-preserved c = (
  omega arith,
  mark_more c.args.roles c.loop-role.from c.in-Some.role c.args.place c.in-Some.ensures.from c.in-Some.ensures.least c.in-Some.ensures.member c.requires.place
      c.args.rows.now c.loop-role.rows (omega arith) c.loop-role.invariant.1,
)

pub returns : goal.returns
returns c role q h =
    c.loop-role.invariant.1 role q h
    ∙ ap (λ b. has (get_or c.args.rows.now role 0) q || ((q == c.args.place) && b)) (upto_all c.args.roles c.loop-role.from c.in_default.ensures.none role)
