use Rattle.std.proofs.Common.{ℕ, ◌+◌, List, [], ◌∷◌, ap, sym, ◌∙◌, subst}
use Rattle.std.proofs.lemmas.List.{map-append}
use Rattle.plan_core.specs.Plan.{routes_of, route_at}
use Rattle.board_rules.specs.State.{BoardState}
use Rattle.board_rules.specs.History.{state_after}
use Rattle.published_board.specs.Written.{AreCells}
use Rattle.board_lock.proofs.Cells.{cells_more, from_one, next_within, at_end}
use Rattle.board_lock.proofs.copies.routes.Goals as goal

pub loop-before-preserved : goal.loop-before-preserved
loop-before-preserved c = λ s kept.
    let n = c.loop-before.before in
    let state : BoardState = state_after s c.args.core.now.journal in
    let is = c.in-Ok.ensures ∙ c.route.ensures s kept in
    subst (λ (xs : List (List ℕ)). AreCells (n + 1) [] (route_at state.routes) xs) (sym (ap routes_of c.in_ok-push.ensures.items ∙ map-append (λ r. r.value) c.loop-before.made.items (c.in-Ok.route ∷ [])))
    (cells_more n [] (route_at state.routes) (routes_of c.loop-before.made.items) c.in-Ok.route.value is (c.loop-before.invariant s kept))

pub route-requires : goal.route-requires
route-requires c = (c.requires.0, c.requires.1, from_one c.loop-before.before, next_within _ _ _ c.loop-before-test.true c.requires.2)

pub returns : goal.returns
returns c = λ s kept.
    subst (λ (n : ℕ). AreCells n [] (route_at (state_after s c.args.core.now.journal).routes) (routes_of c.loop-before.made.items)) (at_end c.loop-before.before c.args.vehicles c.loop-before-test.false c.loop-before.auto.before-end)
    (c.loop-before.invariant s kept)
