use Rattle.std.proofs.Common.{◌∙◌, ap}
use Rattle.board_journal.specs.Journals.{pages_of}
use Rattle.board_journal.proofs.Shared.{pages_more}
use Rattle.board_journal.proofs.journal.shared.Goals as goal

pub loop-page-preserved : goal.loop-page-preserved
loop-page-preserved c =
    ap pages_of c.in_ok-push.ensures.items
    ∙ pages_more c.loop-page.made.items c.args.pages.now c.loop-page.page-index c.in-Ok.page c.page-item.result c.loop-page.invariant c.loop-page-test.true c.page-item.is c.in-Ok.ensures
