use Rattle.std.proofs.Common.{ap}
use Rattle.std.specs.Prelude.{slice_set}
use Rattle.published_board.proofs.shown.write.Goals as goal

pub returns-then-at-len : goal.returns-then-at-len
returns-then-at-len g c = ap (λ at. slice_set c.args.cells.now.items at c.args.value) c.saturating_sub-at.ensures
