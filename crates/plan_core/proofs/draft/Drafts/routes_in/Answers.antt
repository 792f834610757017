use Rattle.std.proofs.Common.{◌≡◌, IfOk, subst}
use Rattle.plan_core.specs.Plan.{Changes, changes_of}
use Rattle.plan_core.proofs.Drafted.{first_draft, second_draft, one_drafted, two_drafted}
use Rattle.plan_core.proofs.draft.Drafts.routes_in.Goals as goal

pub written-requires-clause-low : goal.written-requires-clause-low
written-requires-clause-low c =
    (first_draft _ _ _ _ c.as_slice-drafts.ensures c.index-drafts-0.is c.requires.changes c.requires.fronts).low

pub written-requires-clause-high : goal.written-requires-clause-high
written-requires-clause-high c =
    (first_draft _ _ _ _ c.as_slice-drafts.ensures c.index-drafts-0.is c.requires.changes c.requires.fronts).high

pub written-requires-clause-front : goal.written-requires-clause-front
written-requires-clause-front c =
    (first_draft _ _ _ _ c.as_slice-drafts.ensures c.index-drafts-0.is c.requires.changes c.requires.fronts).front

pub returns-then-drafts-eq1 : goal.returns-then-drafts-eq1
returns-then-drafts-eq1 c =
    subst (λ (all : Changes). IfOk c.one_change.result (λ changes. changes_of changes.items ≡ all))
    (one_drafted _ _ _ _ _ _ c.as_slice-drafts.ensures c.if-drafts-eq1.true c.index-drafts-0.is c.vehicle.ensures c.in_ok-first.ensures) c.one_change.ensures

pub written-requires-2-clause-low : goal.written-requires-2-clause-low
written-requires-2-clause-low c =
    (second_draft _ _ _ _ c.as_slice-drafts.ensures c.if-drafts-eq1.false c.index-drafts-1.is c.requires.changes c.requires.fronts).low

pub written-requires-2-clause-high : goal.written-requires-2-clause-high
written-requires-2-clause-high c =
    (second_draft _ _ _ _ c.as_slice-drafts.ensures c.if-drafts-eq1.false c.index-drafts-1.is c.requires.changes c.requires.fronts).high

pub written-requires-2-clause-front : goal.written-requires-2-clause-front
written-requires-2-clause-front c =
    (second_draft _ _ _ _ c.as_slice-drafts.ensures c.if-drafts-eq1.false c.index-drafts-1.is c.requires.changes c.requires.fronts).front

pub returns : goal.returns
returns c =
    subst (λ (all : Changes). IfOk c.two_changes.result (λ changes. changes_of changes.items ≡ all))
    (two_drafted _ _ _ _ _ _ _ _ _ c.as_slice-drafts.ensures c.if-drafts-eq1.false c.requires.changes c.index-drafts-0.is c.index-drafts-1.is
    c.vehicle-2.ensures c.in_ok-first.ensures c.vehicle-3.ensures c.in_ok-second.ensures) c.two_changes.ensures
