use Rattle.board_state.specs.declared.difference.Difference.{Difference}
use Rattle.board_state.proofs.Differences.{difference_right}
use Rattle.board_state.proofs.Releases.{PinLaws}
use Rattle.board_state.proofs.Spots.{SpotLaws}
use Rattle.board_state.proofs.change.Judged.difference.Goals as goal

pub returns : goal.returns
returns c s state next holds good will =
    let spots : SpotLaws = record {
      routes = c.routes_replaced.ensures;
      stands = c.customers_stand_by_route.ensures;
      possible = c.moves_are_possible.ensures.moves;
      placed = c.moves_are_possible.ensures.placed;
      names = c.moves_name_vehicles.ensures;
      keeps = c.moves_keep_plans.ensures;
      untouched = c.moves_keep_the_untouched.ensures;
      inside = c.moves_inside_rearrange.ensures;
      between = c.moves_between_carry_over.ensures;
      fronts = c.fronts_by_first_change.ensures;
      spot = c.customers_have_one_spot.ensures.spot;
      back = c.customers_have_one_spot.ensures.stands;
      missing = c.customers_have_one_spot.ensures.no_spot;
    } in
    let pins : PinLaws = record { kept = c.pins_after_commits.ensures.kept; gone = c.pins_after_commits.ensures.gone; none = c.pins_after_commits.ensures.none } in
    let d : Difference = record { first = c.in_ok-first.first; second = c.in_ok-first.second; pins = c.in_ok-pins.field-0; front = c.front.result; version = c.version_after.result } in
    difference_right spots pins s c.args.self.now.of c.args.self.now.change state next d c.routes.ensures.sizes c.version_after.ensures.ready holds good will
    c.in_ok-first.ensures.routes c.in_ok-pins.ensures c.front.ensures c.version_after.ensures.value
