use Rattle.std.proofs.Common.{ap, append-nil, arith, length, refl, subst, sym, ◌≤◌, ◌∙◌, ◌++◌, ◌∷◌, [], List}
use Rattle.std.specs.Prelude.{All}
use Rattle.std.proofs.lemmas.List.{length_push}
use Rattle.std.proofs.lemmas.List.Elements.{All-push}
use Rattle.plan_sums.specs.declared.tour.Tour.{Tour}
use Rattle.plan_sums.proofs.Tallies.{no_tour, tour_here}
use Rattle.plan_sums.proofs.tour.push_if_last.Goals as goal

pub tour_of-requires-clause-first : goal.tour_of-requires-clause-first
tour_of-requires-clause-first c = c.requires.tally.here c.args.k refl

pub returns-clause-ok : goal.returns-clause-ok
returns-clause-ok c =
    c.in_ok-push.ensures.items
    ∙ ap (λ (l : List Tour). c.args.tours.now.items ++ l)
    (ap (λ (t : Tour). t ∷ []) c.tour_of.ensures.value
    ∙ sym (tour_here c.args.roads.now c.args.rows.now c.args.k c.args.tally.first (c.requires.tally.first c.args.k refl) (sym c.if-not-ends_tour.ensures)))

pub returns-then-not-ends_tour-clause-ok : goal.returns-then-not-ends_tour-clause-ok
returns-then-not-ends_tour-clause-ok c = sym (ap (λ (l : List Tour). c.args.tours.now.items ++ l) (no_tour c.args.roads.now c.args.rows.now c.args.k (sym c.if-not-ends_tour.ensures)) ∙ append-nil c.args.tours.now.items)

pub returns-then-not-ends_tour-clause-few : goal.returns-then-not-ends_tour-clause-few
returns-then-not-ends_tour-clause-few c = omega arith

pub returns-then-not-ends_tour-clause-small : goal.returns-then-not-ends_tour-clause-small
returns-then-not-ends_tour-clause-small c = λ h. h

pub tour_of-requires-clause-ways : goal.tour_of-requires-clause-ways
tour_of-requires-clause-ways c = c.requires.tally.ways

pub tour_of-requires-clause-small : goal.tour_of-requires-clause-small
tour_of-requires-clause-small c = omega (arith, c.requires.tally.small, c.requires.rows.few, c.requires.within)

pub returns-in_err-push-clause-few : goal.returns-in_err-push-clause-few
returns-in_err-push-clause-few c = let e = c.in_err-push.ensures.items in omega (arith, ap (λ (l : List Tour). length l) e)

pub returns-in_err-push-clause-small : goal.returns-in_err-push-clause-small
returns-in_err-push-clause-small c = λ h. subst (λ (l : List Tour). All (λ tour. tour.distance ≤ 1000141421342) l) (sym c.in_err-push.ensures.items) h

pub returns-clause-few : goal.returns-clause-few
returns-clause-few c = omega (arith, ap (λ (l : List Tour). length l) c.in_ok-push.ensures.items, length_push c.args.tours.now.items c.tour_of.result)

pub returns-clause-small : goal.returns-clause-small
returns-clause-small c = λ h.
    subst (λ (l : List Tour). All (λ tour. tour.distance ≤ 1000141421342) l) (sym c.in_ok-push.ensures.items) (All-push (λ (tour : Tour). tour.distance ≤ 1000141421342) c.args.tours.now.items c.tour_of.result h c.tour_of.ensures.distance)
