use Rattle.std.proofs.Common.{ap, sym, ◌∙◌, subst}
use Rattle.std.specs.Prelude.{Result, Ok, Err, IsOk, MatchResult}
use Rattle.published_board.specs.declared.shown.Shown.{Shown}
use Rattle.published_board.specs.declared.shown.Picture.{Picture}
use Rattle.published_board.specs.Pictures.{picture_of}
use Rattle.published_board.specs.Published.{Published, TellSame}
use Rattle.published_board.specs.Reached.{Reached}
use Rattle.published_board.specs.Sights.{IsPicture, GoesOn}
use Rattle.published_board.proofs.Rules.{sees}
use Rattle.published_board.proofs.Staging.{shown}
use Rattle.published_board.proofs.publication.Publication.publish.Goals as goal

where_ok : {A B X : Type 0} (Q : B → Type 0) (r : Result A B) → IsOk r → MatchResult r (λ _. X) Q → X
where_ok Q (Ok x) h m = m
where_ok Q (Err e) h m = absurd (cc h)

pub replace_with-published-requires : goal.replace_with-published-requires
replace_with-published-requires g c next is =
    let tie = c.self.invariant in
    let now : Shown = c.self.inside.writer.desk.shown.value in
    sees _ _ now next (λ q. subst IsPicture (sym is) (tie.leads q)) (subst (λ (q : Picture). GoesOn (picture_of now).base q.base) (sym is) tie.goes_on)

pub invariant_of-self : goal.invariant_of-self
invariant_of-self g c =
    let done = c.replace_with-published in
    let ok = done.ensures.1.0 tt in
    let values = where_ok _ done.result ok done.ensures.1.1.0 in
    let rule = where_ok _ done.result ok done.ensures.1.1.1 in
    shown c.self.inside.head c.self.inside.trail _ (picture_of done.new.dest.desk.shown.value) _ _ _ _ c.self.invariant values.0 values.1 rule

pub returns : goal.returns
returns g c =
    let done = c.replace_with-published in
    let trail : Reached = c.self.inside.trail in
    let values = where_ok _ done.result (done.ensures.1.0 tt) done.ensures.1.1.0 in
    let same : TellSame trail (picture_of done.new.dest.desk.shown.value).base = subst (λ (q : Picture). TellSame trail q.base) (sym values.0) c.self.invariant.tells in
    let told = same.entries ∙ ap (λ (p : Published). p.entries) c.self.view_is in
    (λ i. record { book = (c.self.view_is i).book; opening = (c.self.view_is i).opening; entries = (c.self.view_is i).entries; shown = told i })
