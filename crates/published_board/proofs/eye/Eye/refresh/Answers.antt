use Rattle.std.proofs.Common.{◌≡◌, ap, sym, ◌∙◌, subst, List, Option, Some}
use mathlib.Core.List.{IsPrefix}
use Rattle.std.specs.Option.{option_and_then}
use Rattle.left_right.specs.Sides.{view}
use Rattle.board_rules.specs.declared.call.Entry.{Entry}
use Rattle.published_board.specs.declared.shown.Shown.{Shown}
use Rattle.published_board.specs.Reached.{Reached, entries_of, opening_of}
use Rattle.published_board.specs.Sights.{IsOf, IsPicture, entries_in}
use Rattle.board_rules.specs.History.{IsLegal}
use Rattle.published_board.specs.Kepts.{AreKeptFor, EyeState, IsKeptFor, viewed_in}
use Rattle.published_board.specs.Pictures.{picture_of}
use Rattle.published_board.proofs.Rules.{sees, goes_self}
use Rattle.published_board.proofs.Prefixes.{prefix_self}
use Rattle.published_board.proofs.Publishing.{legal_in, sees_of, grows_in, grown}
use Rattle.published_board.proofs.eye.Eye.refresh.Goals as goal

pub enter_as-requires : goal.enter_as-requires
enter_as-requires g c x = sees _ _ x x (λ h. h) (goes_self (picture_of x).base)

pub invariant_of-self-in-Ok-renewed : goal.invariant_of-self-in-Ok-renewed
invariant_of-self-in-Ok-renewed g c =
    let o = g.N.Naming.opening in
    let b = g.N.Naming.book in
    let had_is = ap (option_and_then (λ r. view r.place)) (sym c.take.ensures.value ∙ c.in-Some.is) in
    let was : IsOf o b (view c.in-Some.reader.place) = subst (λ (v : Option Reached). IsOf o b v) had_is c.self.invariant.0 in
    let kept_was = subst (λ (v : Option Reached). AreKeptFor o b (entries_in v) c.self.inside.kept) had_is c.self.invariant.1 in
    let saw = c.in-Ok.ensures.1 in
    let of = sees_of o b _ _ _ was saw in
    let is : view c.leave.result.place ≡ Some (picture_of c.in-Ok.reading.part.value).base = c.leave.ensures.1 ∙ saw.now in
    let shown : c.get.result.now ≡ c.in-Ok.reading.part.value = c.get.ensures in
    let picture : IsPicture (picture_of c.get.result.now) = subst (λ (x : Shown). IsPicture (picture_of x)) (sym shown) saw.picture in
    let book = ap (λ (x : Shown). x.base.book) shown ∙ of.1 in
    let opening = ap (λ (x : Shown). opening_of x.base.pages) shown ∙ of.0 in
    let had : List Entry = entries_in (view c.in-Some.reader.place) in
    let pre : IsPrefix had (entries_of c.get.result.now.base.pages) = subst (λ (x : Shown). IsPrefix had (entries_of x.base.pages)) (sym shown) (grows_in o b _ _ _ was saw) in
    let lent = subst (λ k. AreKeptFor o b had k) (sym c.take-in-Ok.ensures.value) kept_was in
    let done = c.in-Ok-renewed.ensures o b had lent picture book opening pre in
    let shows : entries_of c.get.result.now.base.pages ≡ entries_in (view c.leave.result.place) = ap (λ (x : Shown). entries_of x.base.pages) shown ∙ sym (ap entries_in is) in (
      subst (λ (v : Option Reached). IsOf o b v) (sym is) of,
      subst (λ (es : List Entry). IsKeptFor o b es c.in-Ok-renewed.kept) shows done.0,
      ap (λ (es : List Entry). Some es) (ap (λ (r : Reached). entries_of r.pages) done.1 ∙ shows),
    )

pub returns-then-eq-clause-legal : goal.returns-then-eq-clause-legal
returns-then-eq-clause-legal g c =
    subst (λ (e : EyeState). IsLegal (record { opening = g.N.Naming.opening; entries = e.seen })) c.self.view_is (legal_in g.N.Naming.opening g.N.Naming.book _ c.self.invariant.0)

pub returns-in-Err-clause-legal : goal.returns-in-Err-clause-legal
returns-in-Err-clause-legal g c =
    let o = g.N.Naming.opening in
    let b = g.N.Naming.book in
    let had_is = ap (option_and_then (λ r. view r.place)) (sym c.take.ensures.value ∙ c.in-Some.is) in
    legal_in o b (view c.in-Err.reader.place) (subst (λ (v : Option Reached). IsOf o b v) (had_is ∙ sym c.in-Err.ensures.1) c.self.invariant.0)

pub returns-in-Ok-renewed-clause-legal : goal.returns-in-Ok-renewed-clause-legal
returns-in-Ok-renewed-clause-legal g c =
    let o = g.N.Naming.opening in
    let b = g.N.Naming.book in
    let had_is = ap (option_and_then (λ r. view r.place)) (sym c.take.ensures.value ∙ c.in-Some.is) in
    let was : IsOf o b (view c.in-Some.reader.place) = subst (λ (v : Option Reached). IsOf o b v) had_is c.self.invariant.0 in
    let saw = c.in-Ok.ensures.1 in
    legal_in o b (view c.leave.result.place) (subst (λ (v : Option Reached). IsOf o b v) (sym saw.now ∙ sym c.leave.ensures.1) (sees_of o b _ _ _ was saw))

pub returns-in-Ok-renewed-clause-ok : goal.returns-in-Ok-renewed-clause-ok
returns-in-Ok-renewed-clause-ok g c =
    let o = g.N.Naming.opening in
    let b = g.N.Naming.book in
    let had_is = ap (option_and_then (λ r. view r.place)) (sym c.take.ensures.value ∙ c.in-Some.is) in
    let was : IsOf o b (view c.in-Some.reader.place) = subst (λ (v : Option Reached). IsOf o b v) had_is c.self.invariant.0 in
    let kept_was = subst (λ (v : Option Reached). AreKeptFor o b (entries_in v) c.self.inside.kept) had_is c.self.invariant.1 in
    let saw = c.in-Ok.ensures.1 in
    let of = sees_of o b _ _ _ was saw in
    let is : view c.leave.result.place ≡ Some (picture_of c.in-Ok.reading.part.value).base = c.leave.ensures.1 ∙ saw.now in
    let shown : c.get.result.now ≡ c.in-Ok.reading.part.value = c.get.ensures in
    let picture : IsPicture (picture_of c.get.result.now) = subst (λ (x : Shown). IsPicture (picture_of x)) (sym shown) saw.picture in
    let book = ap (λ (x : Shown). x.base.book) shown ∙ of.1 in
    let opening = ap (λ (x : Shown). opening_of x.base.pages) shown ∙ of.0 in
    let had : List Entry = entries_in (view c.in-Some.reader.place) in
    let pre : IsPrefix had (entries_of c.get.result.now.base.pages) = subst (λ (x : Shown). IsPrefix had (entries_of x.base.pages)) (sym shown) (grows_in o b _ _ _ was saw) in
    let lent = subst (λ k. AreKeptFor o b had k) (sym c.take-in-Ok.ensures.value) kept_was in
    let base = (c.in-Ok-renewed.ensures o b had lent picture book opening pre).1 in
    ap (λ (es : List Entry). Some es) (ap (λ (r : Reached). entries_of r.pages) base ∙ (ap (λ (x : Shown). entries_of x.base.pages) shown ∙ sym (ap entries_in is)))

pub returns-in-Err-renewed-clause-legal : goal.returns-in-Err-renewed-clause-legal
returns-in-Err-renewed-clause-legal g c =
    let o = g.N.Naming.opening in
    let b = g.N.Naming.book in
    let had_is = ap (option_and_then (λ r. view r.place)) (sym c.take.ensures.value ∙ c.in-Some.is) in
    let was : IsOf o b (view c.in-Some.reader.place) = subst (λ (v : Option Reached). IsOf o b v) had_is c.self.invariant.0 in
    let saw = c.in-Ok.ensures.1 in
    legal_in o b (view c.leave.result.place) (subst (λ (v : Option Reached). IsOf o b v) (sym saw.now ∙ sym c.leave.ensures.1) (sees_of o b _ _ _ was saw))

pub returns-in-Err-clause-grows : goal.returns-in-Err-clause-grows
returns-in-Err-clause-grows g c =
    let had_is = ap (option_and_then (λ r. view r.place)) (sym c.take.ensures.value ∙ c.in-Some.is) in
    subst (IsPrefix c.args.self.now.seen) (sym (ap (λ (e : EyeState). e.seen) c.self.view_is) ∙ ap entries_in (had_is ∙ sym c.in-Err.ensures.1)) (prefix_self c.args.self.now.seen)

pub returns-in-Ok-renewed-clause-grows : goal.returns-in-Ok-renewed-clause-grows
returns-in-Ok-renewed-clause-grows g c =
    let o = g.N.Naming.opening in
    let b = g.N.Naming.book in
    let had_is = ap (option_and_then (λ r. view r.place)) (sym c.take.ensures.value ∙ c.in-Some.is) in
    let was : IsOf o b (view c.in-Some.reader.place) = subst (λ (v : Option Reached). IsOf o b v) had_is c.self.invariant.0 in
    grown o b c.args.self.now.seen _ _ _ (view c.leave.result.place) (sym (ap entries_in had_is) ∙ ap (λ (e : EyeState). e.seen) c.self.view_is) was c.in-Ok.ensures.1 c.leave.ensures.1

pub returns-in-Err-renewed-clause-grows : goal.returns-in-Err-renewed-clause-grows
returns-in-Err-renewed-clause-grows g c =
    let o = g.N.Naming.opening in
    let b = g.N.Naming.book in
    let had_is = ap (option_and_then (λ r. view r.place)) (sym c.take.ensures.value ∙ c.in-Some.is) in
    let was : IsOf o b (view c.in-Some.reader.place) = subst (λ (v : Option Reached). IsOf o b v) had_is c.self.invariant.0 in
    grown o b c.args.self.now.seen _ _ _ (view c.leave.result.place) (sym (ap entries_in had_is) ∙ ap (λ (e : EyeState). e.seen) c.self.view_is) was c.in-Ok.ensures.1 c.leave.ensures.1

pub returns-in-Err-clause-closed : goal.returns-in-Err-clause-closed
returns-in-Err-clause-closed g c = λ closed.
    let had_is = ap (option_and_then (λ r. view r.place)) (sym c.take.ensures.value ∙ c.in-Some.is) in
    let same = c.in-Err.ensures.1 ∙ sym had_is in
    (λ i. record { seen = entries_in (same i); viewed = viewed_in c.self.inside.kept }) ∙ c.self.view_is

pub invariant_of-self-in-Err-renewed : goal.invariant_of-self-in-Err-renewed
invariant_of-self-in-Err-renewed g c =
    let o = g.N.Naming.opening in
    let b = g.N.Naming.book in
    let had_is = ap (option_and_then (λ r. view r.place)) (sym c.take.ensures.value ∙ c.in-Some.is) in
    let was : IsOf o b (view c.in-Some.reader.place) = subst (λ (v : Option Reached). IsOf o b v) had_is c.self.invariant.0 in
    let saw = c.in-Ok.ensures.1 in (
      subst (λ (v : Option Reached). IsOf o b v) (sym saw.now ∙ sym c.leave.ensures.1) (sees_of o b _ _ _ was saw),
      subst (λ k. AreKeptFor o b (entries_in (view c.leave.result.place)) k) (sym c.take-in-Ok.ensures.after) tt,
      tt,
    )
