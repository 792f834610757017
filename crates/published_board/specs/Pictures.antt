-- What a copy shows, and what a step makes of it.
use Rattle.published_board.specs.declared.shown.Picture.{Picture}
use Rattle.published_board.specs.declared.shown.Shown.{Shown}
use Rattle.published_board.specs.declared.shown.Step.{Step}
use Rattle.published_board.specs.Shelves.{cells_of, cells_after}

abbrev pub picture_of : Shown → Picture
picture_of x = record { base = x.base; cells = cells_of x.cells }

abbrev pub after_step : Picture → Step → Picture
after_step p o = record { base = o.base; cells = cells_after o.base o.entries p.cells o.change }
