use Rattle.std.proofs.Common.{◌≡◌, ℕ, drop, ap, sym, ◌∙◌, subst, length, ◌+◌, [], ◌∷◌, ◌++◌}
use Rattle.std.specs.Prelude.{option_to_list}
use Rattle.left_right.specs.Sides.{view}
use Rattle.board_rules.specs.declared.call.Entry.{Entry}
use Rattle.plan_core.specs.Plan.{route_at}
use Rattle.board_rules.specs.History.{IsNext, state_after}
use Rattle.published_board.specs.declared.page.Page.TheVariants.{Did}
use Rattle.published_board.specs.declared.shown.Picture.{Picture}
use Rattle.published_board.specs.declared.shown.Step.{Step}
use Rattle.published_board.specs.Changed.{IsChangeBy}
use Rattle.published_board.specs.Pictures.{picture_of}
use Rattle.published_board.specs.Published.{Published, TellSame, IsPublished}
use Rattle.published_board.specs.Reached.{Reached, opening_of, entries_of}
use Rattle.published_board.specs.Told.{told}
use Rattle.published_board.proofs.Lanes.{each_of}
use Rattle.published_board.proofs.Pages.{entries_more}
use Rattle.published_board.proofs.Publishing.{step_right, legal_next, taken_back, routes_told}
use Rattle.published_board.proofs.Staging.{tells_now, staged, given_back}
use Rattle.published_board.proofs.publication.Publication.stage.Goals as goal

pub invariant_of-append : goal.invariant_of-append
invariant_of-append g c =
    let trail : Reached = c.self.inside.trail in
    let e : Entry = g.M.Noting.entry c.args.about.now in
    let base : c.again-base.result ≡ c.note.new.trail = c.again-base.ensures in
    let more = ap entries_of c.note.ensures.pages ∙ entries_more trail.pages (Did e) in
    let change = subst (λ (p : Published). IsChangeBy p.opening.setting (state_after p.opening.setting p.entries) e c.args.change) (sym c.self.view_is) c.requires.change in
    let are = routes_told c.histories_grow_by_entries.ensures.state trail c.again-base.result e (option_to_list c.args.change.first ++ option_to_list c.args.change.second)
    (ap (λ (r : Reached). opening_of r.pages) base ∙ c.note.ensures.opening)
    (ap (λ (r : Reached). entries_of r.pages) base ∙ more) change.routes in
    let both = each_of (λ (x : ℕ × _). x.1.value ≡ route_at (told c.again-base.result).routes x.0) c.args.change.first c.args.change.second are in
    record { first_is = both.0; second_is = both.1 }

pub invariant_of-self : goal.invariant_of-self
invariant_of-self g c =
    let trail : Reached = c.self.inside.trail in
    let noted : Reached = c.note.new.trail in
    let tie = c.self.invariant in
    let e : Entry = g.M.Noting.entry c.args.about.now in
    let p : Picture = picture_of c.self.inside.writer.desk.shown.value in
    let st : Step = record { change = c.args.change; entries = c.args.entries; base = c.again-base.result; first_is = _; second_is = _ } in
    let base : c.again-base.result ≡ noted = c.again-base.ensures in
    let next : IsNext (opening_of trail.pages) (entries_of trail.pages) e = subst (λ (q : Published). IsNext q.opening q.entries e) (sym c.self.view_is) c.requires.next in
    let change = subst (λ (q : Published). IsChangeBy q.opening.setting (state_after q.opening.setting q.entries) e c.args.change) (sym c.self.view_is) c.requires.change in
    let count = c.requires.entries ∙ ap (λ (q : Published). length q.entries + 1) (sym c.self.view_is) in
    let same : entries_of p.base.pages ≡ entries_of trail.pages = ap (λ (q : Published). q.shown) c.self.view_is ∙ (c.requires.shown ∙ ap (λ (q : Published). q.entries) (sym c.self.view_is)) in
    let more = ap entries_of c.note.ensures.pages ∙ entries_more trail.pages (Did e) in
    let both = step_right c.histories_grow_by_entries.ensures.legal c.histories_grow_by_entries.ensures.state c.legal_histories_leave_good_states.ensures.good trail p st e tie.legal
    (tells_now c.self.inside.head trail p _ _ tie same)
    (ap (λ (r : Reached). r.book) base ∙ c.note.ensures.book)
    (ap (λ (r : Reached). opening_of r.pages) base ∙ c.note.ensures.opening)
    (ap (λ (r : Reached). entries_of r.pages) base ∙ more)
    next change count in
    subst (λ d. IsPublished c.self.inside.head noted (picture_of d.shown.value) (drop c.append.new.self.behind c.append.new.self.log.items) (view d.place)) (sym c.append.ensures.desk)
    (staged c.self.inside.head trail noted p _ _ st _ e tie same c.note.ensures.book more base c.in-Ok.ensures.pending
    (legal_next c.histories_grow_by_entries.ensures.legal trail noted e tie.legal c.note.ensures.opening more next) both)

pub invariant_of-self-in_default : goal.invariant_of-self-in_default
invariant_of-self-in_default g c =
    let trail : Reached = c.self.inside.trail in
    let same : TellSame trail c.take_back.new.trail = taken_back trail c.note.new.trail c.take_back.new.trail (g.M.Noting.entry c.args.about.now) c.note.ensures.book c.take_back.ensures.book
    c.note.ensures.opening c.take_back.ensures.opening c.note.ensures.pages c.take_back.ensures.pages in
    subst (λ d. IsPublished c.self.inside.head c.take_back.new.trail (picture_of d.shown.value) (drop c.append.new.self.behind c.append.new.self.log.items) (view d.place)) (sym c.append.ensures.desk)
    (given_back c.self.inside.head trail c.take_back.new.trail _ _ _ _ c.self.invariant same c.in_default.ensures.pending.1)

pub returns-clause-ok : goal.returns-clause-ok
returns-clause-ok g c =
    let e : Entry = g.M.Noting.entry c.args.about.now in
    let book = c.note.ensures.book ∙ ap (λ (p : Published). p.book) c.self.view_is in
    let opening = c.note.ensures.opening ∙ ap (λ (p : Published). p.opening) c.self.view_is in
    let entries = ap entries_of c.note.ensures.pages ∙ (entries_more c.self.inside.trail.pages (Did e) ∙ ap (λ (p : Published). p.entries ++ e ∷ []) c.self.view_is) in
    let shown = ap (λ d. entries_of d.shown.value.base.pages) c.append.ensures.desk ∙ ap (λ (p : Published). p.shown) c.self.view_is in
    (λ i. record { book = book i; opening = opening i; entries = entries i; shown = shown i })

pub returns-in_default-clause-err : goal.returns-in_default-clause-err
returns-in_default-clause-err g c =
    let trail : Reached = c.self.inside.trail in
    let same : TellSame trail c.take_back.new.trail = taken_back trail c.note.new.trail c.take_back.new.trail (g.M.Noting.entry c.args.about.now) c.note.ensures.book c.take_back.ensures.book
    c.note.ensures.opening c.take_back.ensures.opening c.note.ensures.pages c.take_back.ensures.pages in
    let shown = ap (λ d. entries_of d.shown.value.base.pages) c.append.ensures.desk in
    (λ i. record { book = same.book i; opening = same.opening i; entries = same.entries i; shown = shown i }) ∙ c.self.view_is
