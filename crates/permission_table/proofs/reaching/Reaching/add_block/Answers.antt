use Rattle.std.proofs.Common.{length, ap, ◌∙◌, arith, is_ok}
use Rattle.permission_table.specs.Reaching.{is_marked}
use Rattle.permission_table.proofs.ReachLaws.{resized_same, resized_new}
use Rattle.permission_table.proofs.reaching.Reaching.add_block.Goals as goal

pub returns-clause-same : goal.returns-clause-same
returns-clause-same c role place small within =
    resized_same c.self.inside.sets.items c.resize.new.self.items (is_ok c.resize.result) _ _ c.new.result c.resize.ensures.items (omega arith) (omega arith) c.new.ensures c.self.invariant role place small
    (omega (arith, within, ap length c.self.view_is))
    ∙ ap (λ x. is_marked x role place) c.self.view_is

pub returns-clause-new : goal.returns-clause-new
returns-clause-new c role place small above within =
    resized_new c.self.inside.sets.items c.resize.new.self.items (is_ok c.resize.result) _ _ c.new.result c.resize.ensures.items (omega arith) (omega arith) c.new.ensures c.self.invariant role place small
    (omega (arith, above, ap length c.self.view_is)) within
