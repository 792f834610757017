use mathlib.Core.List.{IsPrefix}
use Rattle.std.proofs.Common.{◌≡◌, length, sym, subst, ap, ◌∙◌, List}
use Rattle.board_rules.specs.declared.call.Entry.{Entry}
use Rattle.board_rules.specs.History.{Opening, IsLegal, state_after}
use Rattle.published_board.specs.Reached.{Reached, entries_of, opening_of, history_in}
use Rattle.published_board.specs.Shelves.{Shows, cells_of, view_of}
use Rattle.published_board.proofs.Prefixes.{prefix_self}
use Rattle.published_board.proofs.eye.renewed.Goals as goal

pub returns : goal.returns
returns c = λ o book seen kept picture book_is opening pre.
    let r : Reached = c.args.shown.now.base in
    let es : List Entry = entries_of r.pages in
    let again : c.again.result ≡ r = c.again.ensures in
    let legal : IsLegal (record { opening = o; entries = es }) = subst (λ (q : Opening). IsLegal (record { opening = q; entries = es })) opening picture.legal in
    let shows : Shows o.setting es (cells_of c.args.shown.now.cells) = subst (λ (q : Opening). Shows q.setting es (cells_of c.args.shown.now.cells)) opening picture.shows in
    let view = c.in_ok-brought.ensures o book seen es kept legal shows pre in (
      record {
        book_is = ap (λ (x : Reached). x.book) again ∙ book_is;
        opening_is = ap (λ (x : Reached). opening_of x.pages) again ∙ opening;
        legal = subst (λ (x : Reached). IsLegal (history_in x.pages)) (sym again) picture.legal;
        begins = subst (λ (x : Reached). IsPrefix (entries_of x.pages) es) (sym again) (prefix_self es);
        view_is = view ∙ ap (λ (x : Reached). view_of (state_after o.setting (entries_of x.pages))) (sym again);
        entries_is = shows.entries ∙ ap (λ (x : Reached). length (entries_of x.pages)) (sym again);
      },
      again,
    )
