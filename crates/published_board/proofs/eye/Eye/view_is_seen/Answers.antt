use Rattle.std.proofs.Common.{subst}
use Rattle.std.specs.Prelude.{MatchOption}
use mathlib.Core.List.{IsPrefix}
use Rattle.std.specs.Option.{option_and_then}
use Rattle.left_right.specs.Sides.{view as place_view}
use Rattle.board_rules.specs.History.{IsLegal}
use Rattle.published_board.specs.Kepts.{EyeState}
use Rattle.published_board.specs.Sights.{entries_in}
use Rattle.published_board.proofs.Kepts.{viewed_is_seen}
use Rattle.published_board.proofs.eye.Eye.view_is_seen.Goals as goal

pub returns : goal.returns
returns g c =
    subst (λ (e : EyeState). MatchOption e.viewed (Unit {0}) (λ es. IsLegal (record { opening = g.N.Naming.opening; entries = es }) × IsPrefix es e.seen)) c.self.view_is
    (viewed_is_seen g.N.Naming.opening g.N.Naming.book (entries_in (option_and_then (λ r. place_view r.place) c.self.inside.reader)) c.self.inside.kept c.self.invariant.1)
