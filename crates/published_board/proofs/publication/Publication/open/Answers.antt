use Rattle.std.proofs.Common.{◌≡◌, ap, sym, ◌∙◌, subst, fold, length, List, [], ◌∷◌}
use Rattle.std.specs.Prelude.{Result, Ok, Err, IsOk, MatchResult}
use Rattle.board_rules.specs.History.{IsLegal, History, state_after}
use Rattle.board_rules.specs.State.{BoardState}
use Rattle.published_board.specs.declared.page.Page.{Page}
use Rattle.published_board.specs.declared.page.Page.TheVariants.{Opened}
use Rattle.published_board.specs.declared.shown.Shown.{Shown}
use Rattle.published_board.specs.declared.shown.Shelf.{Shelf}
use Rattle.published_board.specs.declared.shown.Picture.{Picture}
use Rattle.published_board.specs.Shelves.{Shows, cells_of}
use Rattle.published_board.specs.Lanes.{lanes_of}
use Rattle.published_board.specs.Told.{told}
use Rattle.published_board.specs.Pictures.{picture_of, after_step}
use Rattle.published_board.specs.Sights.{IsPicture, GoesOn}
use Rattle.published_board.specs.Reached.{Reached, history_in, opening_of, entries_of}
use Rattle.published_board.proofs.Rules.{sees, goes_self}
use Rattle.published_board.proofs.Publishing.{keeps_first, same_self, knows, shows_first}
use Rattle.published_board.proofs.Staging.{at_rest}
use Rattle.published_board.proofs.publication.Publication.open.Goals as goal

where_ok : {A B X : Type 0} (Q : B → Type 0) (r : Result A B) → IsOk r → MatchResult r (λ _. X) Q → X
where_ok Q (Ok x) h m = m
where_ok Q (Err e) h m = absurd (cc h)

pub new-made-requires-clause-rule : goal.new-made-requires-clause-rule
new-made-requires-clause-rule g c =
    let h : History = g.M.Beginning.history c.args.about.now in
    let state : BoardState = state_after h.opening.setting h.entries in
    let trail : Reached = c.open-head.result.1 in
    let first : c.open-head.result.1.pages ≡ Opened h ∷ [] = c.open-head.ensures.pages in
    let again : c.again.result ≡ trail = c.again.ensures in
    let pages : c.again.result.pages ≡ Opened h ∷ [] = ap (λ (r : Reached). r.pages) again ∙ first in
    let good = c.legal_histories_leave_good_states.ensures.good h c.requires.legal in
    let tells : told trail ≡ state = ap (λ (ps : List Page). state_after (opening_of ps).setting (entries_of ps)) first in
    let p : Shelf = cells_of c.in_ok-of.field-0 in
    let many : length c.args.view.routes ≡ h.opening.setting.vehicles = ap (λ v. length v.routes) c.requires.view ∙ good.sized in
    let cells = c.in_ok-of.ensures in
    let shows : Shows h.opening.setting h.entries p = shows_first h.opening h.entries trail p c.args.entries good tells
    (cells.lanes ∙ ap (lanes_of trail c.args.entries) many)
    (cells.rest.0 ∙ ap (λ v. v.pinned) c.requires.view) (cells.rest.1 ∙ ap (λ v. v.frozen) c.requires.view) (cells.rest.2 ∙ ap (λ v. v.version) c.requires.view)
    c.requires.entries cells.numbers.0 cells.numbers.1 cells.numbers.2 in
    keeps_first (record { base = c.again.result; cells = p }) (record {
      legal = subst (λ (ps : List Page). IsLegal (history_in ps)) (sym pages) c.requires.legal;
      shows = subst (λ (ps : List Page). Shows (opening_of ps).setting (entries_of ps) p) (sym pages) shows;
    })

pub publish_as-writer-requires : goal.publish_as-writer-requires
publish_as-writer-requires g c next is =
    let now : Shown = c.in-Ok.writer.desk.shown.value in
    let same : picture_of next ≡ picture_of now = is ∙ ap (fold after_step (picture_of now)) c.in-Ok.ensures.1 in
    sees _ _ now next (λ p. subst IsPicture (sym same) p) (subst (λ (q : Reached). GoesOn (picture_of now).base q) (ap (λ (p : Picture). p.base) (sym same)) (goes_self (picture_of now).base))

pub invariant_of-result : goal.invariant_of-result
invariant_of-result g c =
    let h : History = g.M.Beginning.history c.args.about.now in
    let trail : Reached = c.open-head.result.1 in
    let now : Shown = c.in-Ok.writer.desk.shown.value in
    let values = where_ok _ c.publish_as-writer.result.1 (c.publish_as-writer.ensures.succeeds tt) c.publish_as-writer.ensures.values in
    let rule = where_ok _ c.publish_as-writer.result.1 (c.publish_as-writer.ensures.succeeds tt) c.publish_as-writer.ensures.rule in
    let next : Picture = picture_of c.publish_as-writer.result.0.desk.shown.value in
    let stays : next ≡ picture_of now = values.0 ∙ ap (fold after_step (picture_of now)) c.in-Ok.ensures.1 in
    let base : next.base ≡ trail = ap (λ (p : Picture). p.base) stays ∙ (ap (λ (x : Shown). x.base) c.in-Ok.ensures.0 ∙ c.again.ensures) in
    let same = same_self trail next.base base in
    at_rest c.open-head.result.0 trail next _ _ (subst (λ (ps : List Page). IsLegal (history_in ps)) (sym c.open-head.ensures.pages) c.requires.legal) c.open-head.ensures.head
    same values.1 (knows trail _ next _ rule same)

pub returns-clause-opening : goal.returns-clause-opening
returns-clause-opening g c = ap opening_of c.open-head.ensures.pages

pub returns-clause-entries : goal.returns-clause-entries
returns-clause-entries g c = ap entries_of c.open-head.ensures.pages

pub returns-clause-shown : goal.returns-clause-shown
returns-clause-shown g c =
    let now : Shown = c.in-Ok.writer.desk.shown.value in
    let values = where_ok _ c.publish_as-writer.result.1 (c.publish_as-writer.ensures.succeeds tt) c.publish_as-writer.ensures.values in
    let stays = values.0 ∙ ap (fold after_step (picture_of now)) c.in-Ok.ensures.1 in
    ap (λ (p : Picture). entries_of p.base.pages) stays ∙ (ap (λ (x : Shown). entries_of x.base.pages) c.in-Ok.ensures.0 ∙ (ap (λ (r : Reached). entries_of r.pages) c.again.ensures ∙ ap entries_of c.open-head.ensures.pages))

pub of-requires-clause-routes : goal.of-requires-clause-routes
of-requires-clause-routes g c =
    ap (λ v. v.routes) c.requires.view ∙ ap (λ (ps : List Page). (state_after (opening_of ps).setting (entries_of ps)).routes) (sym c.open-head.ensures.pages)
