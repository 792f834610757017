use Rattle.std.proofs.Common.{ap, sym, ◌∙◌, length, None}
use Rattle.board_rules.specs.History.{state_after}
use Rattle.published_board.proofs.Renewed.{same_cells}
use Rattle.published_board.proofs.shown.Cells.renew_pins.Goals as goal

pub returns : goal.returns
returns c = λ s es before good was shows pre count pins fronts. (
  c.written_over.ensures (ap length pins ∙ (was.pinned ∙ (sym shows.pins.sized ∙ ap length (sym c.as_slice.ensures.value))))
      ∙ (c.as_slice.ensures.value ∙ same_cells s.customers None (state_after s es).pins.pins c.args.self.now.pins.items good.pinned shows.pins),
  c.written_over-2.ensures (ap length fronts ∙ (was.frozen ∙ (sym shows.frozen.sized ∙ ap length (sym c.as_slice-2.ensures.value))))
      ∙ (c.as_slice-2.ensures.value ∙ same_cells s.vehicles 0 (state_after s es).pins.fronts c.args.self.now.frozen.items good.frozen shows.frozen),
)
