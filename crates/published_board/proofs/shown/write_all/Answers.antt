use Rattle.std.proofs.Common.{◌-◌, ap, ◌∙◌}
use Rattle.std.specs.Prelude.{slice_set}
use Rattle.std.proofs.lemmas.List.{take_all}
use Rattle.published_board.specs.Written.{written}
use Rattle.published_board.proofs.Loops.{folded_more}
use Rattle.published_board.proofs.shown.write_all.Goals as goal

pub loop-change-preserved : goal.loop-change-preserved
loop-change-preserved g c =
    folded_more (λ xs d. slice_set xs (d.0 - 1) d.1) c.args.cells.now.items c.args.changes.now c.loop-change.change-index c.change-item.result c.loop-change.cells.items
    c.write.new.cells.items c.loop-change-test.true c.change-item.is c.loop-change.invariant c.write.ensures

pub returns : goal.returns
returns g c = c.loop-change.invariant ∙ ap (written c.args.cells.now.items) (take_all c.loop-change.change-index c.args.changes.now c.loop-change-test.false)
