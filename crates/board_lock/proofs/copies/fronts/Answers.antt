use Rattle.std.proofs.Common.{ℕ, ◌+◌, List, sym, subst}
use Rattle.pin_core.specs.Pins.{front_of}
use Rattle.board_rules.specs.History.{state_after}
use Rattle.published_board.specs.Written.{AreCells}
use Rattle.board_lock.proofs.Cells.{cells_more, from_one, next_within, at_end}
use Rattle.board_lock.proofs.copies.fronts.Goals as goal

pub loop-before-preserved : goal.loop-before-preserved
loop-before-preserved c = λ s kept.
    let n = c.loop-before.before in
    subst (λ (xs : List _). AreCells (n + 1) 0 (front_of (state_after s c.args.core.now.journal).pins) xs) (sym c.in_ok-push.ensures.items)
    (cells_more n 0 (front_of (state_after s c.args.core.now.journal).pins) c.loop-before.cells.items c.frozen.result (c.frozen.ensures s kept) (c.loop-before.invariant s kept))

pub frozen-requires : goal.frozen-requires
frozen-requires c = (c.requires.0, c.requires.1, from_one c.loop-before.before, next_within _ _ _ c.loop-before-test.true c.requires.2)

pub returns : goal.returns
returns c = λ s kept.
    subst (λ (n : ℕ). AreCells n 0 (front_of (state_after s c.args.core.now.journal).pins) c.loop-before.cells.items) (at_end c.loop-before.before c.args.vehicles c.loop-before-test.false c.loop-before.auto.before-end)
    (c.loop-before.invariant s kept)
