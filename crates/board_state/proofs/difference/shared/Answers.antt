use Rattle.board_state.proofs.NewRoutes.{again_one}
use Rattle.board_state.proofs.difference.shared.Goals as goal

pub returns-in_ok-route-in-Some : goal.returns-in_ok-route-in-Some
returns-in_ok-route-in-Some c =
    again_one c.args.changes.now c.args.at c.in-Some.field-0.now c.in_ok-route-in-Some.route c.in-Some.ensures.lookup.3.0 c.in-Some.ensures.lookup.1 c.in_ok-route-in-Some.ensures
