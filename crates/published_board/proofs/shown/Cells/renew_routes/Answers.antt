use Rattle.std.proofs.Common.{◌∙◌}
use Rattle.published_board.specs.Lanes.{renewed}
use Rattle.published_board.specs.Shelves.{cells_of}
use Rattle.published_board.proofs.Renewed.{renewed_right}
use Rattle.published_board.proofs.shown.Cells.renew_routes.Goals as goal

pub returns : goal.returns
returns c = λ s es before good was shows pre count routes.
    c.in_ok-renew_all.ensures ∙ ((λ i. renewed c.args.entries (c.as_slice.ensures.value i) (routes i)) ∙ renewed_right s es before (cells_of c.args.self.now) c.args.entries good was shows pre count)
