-- Kept views.
use Rattle.std.proofs.Common.{subst, List, Option, Some, None}
use Rattle.std.specs.Prelude.{MatchOption}
use mathlib.Core.List.{IsPrefix}
use Rattle.logbook.specs.Pages.{Book}
use Rattle.board_rules.specs.declared.call.Entry.{Entry}
use Rattle.board_rules.specs.History.{Opening, IsLegal}
use Rattle.published_board.specs.declared.eye.Kept.{Kept}
use Rattle.published_board.specs.Reached.{entries_of}
use Rattle.published_board.specs.Kepts.{AreKeptFor, viewed_in}
use Rattle.published_board.proofs.Prefixes.{prefix_trans}

-- a kept view stays one where more was seen
pub kept_on : (o : Opening) (book : Book) (seen more : List Entry) (kept : Option Kept) → IsPrefix seen more → AreKeptFor o book seen kept → AreKeptFor o book more kept
kept_on o book seen more None grows is = tt
kept_on o book seen more (Some k) grows is = record {
  book_is = is.book_is;
  opening_is = is.opening_is;
  legal = is.legal;
  begins = prefix_trans (entries_of k.base.pages) seen more is.begins grows;
  view_is = is.view_is;
  entries_is = is.entries_is;
}

-- the entries of which a kept view tells are legal, and the first of those that were seen
pub viewed_is_seen : (o : Opening) (book : Book) (seen : List Entry) (kept : Option Kept) → AreKeptFor o book seen kept
    → MatchOption (viewed_in kept) (Unit {0}) (λ es. IsLegal (record { opening = o; entries = es }) × IsPrefix es seen)
viewed_is_seen o book seen None is = tt
viewed_is_seen o book seen (Some k) is =
    (subst (λ (q : Opening). IsLegal (record { opening = q; entries = entries_of k.base.pages })) is.opening_is is.legal, is.begins)
