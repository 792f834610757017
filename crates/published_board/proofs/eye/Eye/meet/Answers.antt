use Rattle.std.proofs.Common.{◌≡◌, Bool, true, false, refl, ap, sym, ◌∙◌, subst, Option}
use Rattle.std.specs.Prelude.{IsTrue}
use Rattle.std.specs.Bool.{OnTrue}
use mathlib.Core.List.{IsPrefix}
use Rattle.std.specs.Option.{option_and_then}
use Rattle.left_right.specs.Sides.{view}
use Rattle.published_board.specs.declared.shown.Shown.{Shown}
use Rattle.published_board.specs.Reached.{Reached, entries_of}
use Rattle.published_board.specs.Sights.{IsOf, entries_in}
use Rattle.published_board.specs.Kepts.{AreKeptFor, EyeState}
use Rattle.published_board.specs.Pictures.{picture_of}
use Rattle.published_board.proofs.Rules.{sees, goes_self}
use Rattle.published_board.proofs.Prefixes.{prefix_self}
use Rattle.published_board.proofs.Publishing.{legal_in, sees_of, grows_in, grown}
use Rattle.published_board.proofs.Kepts.{kept_on}
use Rattle.published_board.proofs.eye.Eye.meet.Goals as goal

on_true : (b : Bool) (P : Type 0) → (IsTrue b → P) → OnTrue b P
on_true true P f = f refl
on_true false P f = tt

pub enter_as-requires : goal.enter_as-requires
enter_as-requires g c x = sees _ _ x x (λ h. h) (goes_self (picture_of x).base)

pub invariant_of-self-in-Ok : goal.invariant_of-self-in-Ok
invariant_of-self-in-Ok g c =
    let o = g.N.Naming.opening in
    let b = g.N.Naming.book in
    let had = ap (option_and_then (λ r. view r.place)) (sym c.take.ensures.value ∙ c.in-Some.is) in
    let of : IsOf o b (view c.in-Some.reader.place) = subst (λ (v : Option Reached). IsOf o b v) had c.self.invariant.0 in
    let kept = subst (λ (v : Option Reached). AreKeptFor o b (entries_in v) c.self.inside.kept) had c.self.invariant.1 in
    let saw = c.in-Ok.ensures.1 in
    let is : view c.leave.result.place ≡ _ = c.leave.ensures.1 ∙ saw.now in (
      subst (λ (v : Option Reached). IsOf o b v) (sym is) (sees_of o b _ _ _ of saw),
      subst (λ (v : Option Reached). AreKeptFor o b (entries_in v) c.self.inside.kept) (sym is) (kept_on o b _ _ c.self.inside.kept (grows_in o b _ _ _ of saw) kept),
      tt,
    )

pub returns-in-Err-clause-legal : goal.returns-in-Err-clause-legal
returns-in-Err-clause-legal g c =
    let o = g.N.Naming.opening in
    let b = g.N.Naming.book in
    let had = ap (option_and_then (λ r. view r.place)) (sym c.take.ensures.value ∙ c.in-Some.is) in
    legal_in o b (view c.in-Err.reader.place) (subst (λ (v : Option Reached). IsOf o b v) (had ∙ sym c.in-Err.ensures.1) c.self.invariant.0)

pub returns-in-Ok-clause-legal : goal.returns-in-Ok-clause-legal
returns-in-Ok-clause-legal g c =
    let o = g.N.Naming.opening in
    let b = g.N.Naming.book in
    let had = ap (option_and_then (λ r. view r.place)) (sym c.take.ensures.value ∙ c.in-Some.is) in
    let of : IsOf o b (view c.in-Some.reader.place) = subst (λ (v : Option Reached). IsOf o b v) had c.self.invariant.0 in
    let saw = c.in-Ok.ensures.1 in
    legal_in o b (view c.leave.result.place) (subst (λ (v : Option Reached). IsOf o b v) (sym saw.now ∙ sym c.leave.ensures.1) (sees_of o b _ _ _ of saw))

pub returns-in-Err-clause-grows : goal.returns-in-Err-clause-grows
returns-in-Err-clause-grows g c =
    let had = ap (option_and_then (λ r. view r.place)) (sym c.take.ensures.value ∙ c.in-Some.is) in
    subst (IsPrefix c.args.self.now.seen) (sym (ap (λ (e : EyeState). e.seen) c.self.view_is) ∙ ap entries_in (had ∙ sym c.in-Err.ensures.1)) (prefix_self c.args.self.now.seen)

pub returns-in-Ok-clause-grows : goal.returns-in-Ok-clause-grows
returns-in-Ok-clause-grows g c =
    let o = g.N.Naming.opening in
    let b = g.N.Naming.book in
    let had = ap (option_and_then (λ r. view r.place)) (sym c.take.ensures.value ∙ c.in-Some.is) in
    let of : IsOf o b (view c.in-Some.reader.place) = subst (λ (v : Option Reached). IsOf o b v) had c.self.invariant.0 in
    grown o b c.args.self.now.seen _ _ _ (view c.leave.result.place) (sym (ap entries_in had) ∙ ap (λ (e : EyeState). e.seen) c.self.view_is) of c.in-Ok.ensures.1 c.leave.ensures.1

pub returns-in-Ok-clause-seen : goal.returns-in-Ok-clause-seen
returns-in-Ok-clause-seen g c = on_true c.shows_same-same.result _ (λ yes.
    ap entries_in (c.leave.ensures.1 ∙ c.in-Ok.ensures.1.now) ∙ (ap (λ (x : Shown). entries_of x.base.pages) (sym c.get.ensures) ∙ ap entries_of (c.shows_same-same.ensures.0 yes)))

pub shows_same-same-requires : goal.shows_same-same-requires
shows_same-same-requires g c =
    let o = g.N.Naming.opening in
    let b = g.N.Naming.book in
    let had = ap (option_and_then (λ r. view r.place)) (sym c.take.ensures.value ∙ c.in-Some.is) in
    let of : IsOf o b (view c.in-Some.reader.place) = subst (λ (v : Option Reached). IsOf o b v) had c.self.invariant.0 in
    c.requires ∙ sym (ap (λ (x : Shown). x.base.book) c.get.ensures ∙ (sees_of o b _ _ _ of c.in-Ok.ensures.1).1)
