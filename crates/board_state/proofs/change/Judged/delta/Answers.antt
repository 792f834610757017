use Rattle.std.proofs.Common.{◌≡◌, sym, subst, ◌∙◌}
use Rattle.board_rules.specs.Delta.{DeltaShown, IsDelta}
use Rattle.board_state.proofs.Deltas.{delta_right}
use Rattle.board_state.proofs.Releases.{PinLaws}
use Rattle.board_state.proofs.Spots.{SpotLaws}
use Rattle.board_state.proofs.change.Judged.delta.Goals as goal

pub returns : goal.returns
returns c s state next holds good will =
    let judged = c.args.self.now in
    let spots : SpotLaws = record {
      routes = c.routes_replaced.ensures;
      stands = c.customers_stand_by_route.ensures;
      possible = c.moves_are_possible.ensures.moves;
      placed = c.moves_are_possible.ensures.placed;
      names = c.moves_name_vehicles.ensures;
      keeps = c.moves_keep_plans.ensures;
      untouched = c.moves_keep_the_untouched.ensures;
      inside = c.moves_inside_rearrange.ensures;
      between = c.moves_between_carry_over.ensures;
      fronts = c.fronts_by_first_change.ensures;
      spot = c.customers_have_one_spot.ensures.spot;
      back = c.customers_have_one_spot.ensures.stands;
      missing = c.customers_have_one_spot.ensures.no_spot;
    } in
    let pins : PinLaws = record { kept = c.pins_after_commits.ensures.kept; gone = c.pins_after_commits.ensures.gone; none = c.pins_after_commits.ensures.none } in
    let parts : ◌≡◌ {A = DeltaShown} _ _ = λ i. record {
      places = c.in_ok-places.ensures i;
      pins = c.in_ok-pins.ensures i;
      frozen = c.in_ok-frozen.ensures i;
      version = c.version_after.ensures.value i;
    } in
    subst (λ (d : DeltaShown). IsDelta s state next d) (sym (c.new.ensures ∙ parts))
    (delta_right spots pins s judged.of judged.change state next c.version_after.ensures.ready holds good will)
