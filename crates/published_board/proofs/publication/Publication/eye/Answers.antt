use Rattle.std.proofs.Common.{◌≡◌, drop, refl, ap, sym, ◌∙◌, subst, Option}
use Rattle.std.specs.Prelude.{MatchOption}
use Rattle.left_right.specs.Sides.{view}
use Rattle.published_board.specs.Published.{Published, TellSame}
use Rattle.published_board.specs.Pictures.{picture_of}
use Rattle.published_board.specs.Reached.{Reached, entries_of, opening_of}
use Rattle.published_board.specs.Sights.{entries_in}
use Rattle.published_board.proofs.Rules.{admits, forks, merges}
use Rattle.published_board.proofs.Publishing.{known_of, known_entries}
use Rattle.published_board.proofs.Staging.{unmoved}
use Rattle.published_board.proofs.publication.Publication.eye.Goals as goal

pub reader-requires : goal.reader-requires
reader-requires g c = admits

pub tell-requires : goal.tell-requires
tell-requires g c = forks _ _

pub learn-requires-clause-rule : goal.learn-requires-clause-rule
learn-requires-clause-rule g c = merges _ _ _ _

pub invariant_of-eye : goal.invariant_of-eye
invariant_of-eye g c =
    let trail : Reached = c.self.inside.trail in
    let same : entries_of c.self.inside.writer.desk.shown.value.base.pages ≡ entries_of trail.pages =
    ap (λ (p : Published). p.shown) c.self.view_is ∙ (c.requires.shown ∙ ap (λ (p : Published). p.entries) (sym c.self.view_is)) in
    let known : MatchOption (view c.self.inside.writer.desk.place) ⊥ (TellSame trail) = (c.self.invariant.settled same).known_tells in
    let told : view c.learn.new.self.place ≡ view c.self.inside.writer.desk.place = c.learn.ensures.1 ∙ c.tell.ensures.given.1 in (
      known_of g.N.Naming.opening g.N.Naming.book trail (view c.learn.new.self.place) (ap (λ (p : Published). p.opening) c.self.view_is ∙ c.requires.opening) (ap (λ (p : Published). p.book) c.self.view_is ∙ c.requires.book) c.self.invariant.legal
          (subst (λ (v : Option Reached). MatchOption v ⊥ (TellSame trail)) (sym told) known),
      tt,
      tt,
    )

pub invariant_of-self : goal.invariant_of-self
invariant_of-self g c =
    let kept = c.tell.ensures.kept in
    unmoved c.self.inside.head c.self.inside.trail _ (picture_of c.tell.new.self.desk.shown.value) _ _ _ _ c.self.invariant (ap (λ d. picture_of d.value) kept.0) (λ i. drop (kept.2 i) (kept.1 i).items) kept.3

pub returns : goal.returns
returns g c =
    let trail : Reached = c.self.inside.trail in
    let same : entries_of c.self.inside.writer.desk.shown.value.base.pages ≡ entries_of trail.pages =
    ap (λ (p : Published). p.shown) c.self.view_is ∙ (c.requires.shown ∙ ap (λ (p : Published). p.entries) (sym c.self.view_is)) in
    let told : view c.learn.new.self.place ≡ view c.self.inside.writer.desk.place = c.learn.ensures.1 ∙ c.tell.ensures.given.1 in
    let shown = ap (λ d. entries_of d.value.base.pages) c.tell.ensures.kept.0 in
    record {
      same = (λ i. record { book = trail.book; opening = opening_of trail.pages; entries = entries_of trail.pages; shown = shown i }) ∙ c.self.view_is;
      seen = (ap entries_in told ∙ (known_entries trail _ (c.self.invariant.settled same).known_tells ∙ ap (λ (p : Published). p.entries) c.self.view_is), refl);
    }
