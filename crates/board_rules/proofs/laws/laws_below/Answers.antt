use Rattle.board_rules.proofs.laws.laws_below.Goals as goal

pub returns : goal.returns
returns c = record {
  routes = c.routes_replaced.ensures;
  stands = c.customers_stand_by_route.ensures;
  among = c.among_is_tested.ensures;
  names = c.moves_name_vehicles.ensures;
  keeps = c.moves_keep_plans.ensures;
  stays = c.moves_keep_the_untouched.ensures;
  fronts = c.fronts_by_first_change.ensures;
  pins = record {
    held_at_first = c.opening_holds.ensures.holding;
    fit_at_first = c.opening_holds.ensures.fitting;
    pin = c.pin_holds.ensures;
    unpin = c.unpin_holds.ensures;
    freeze = c.fronts_within_routes.ensures.freeze;
    thaw = c.fronts_within_routes.ensures.thaw;
    still = c.front_still_fits.ensures;
    named = c.freezes_by_named.ensures;
    released = c.pins_after_commits.ensures.holding;
    rows = c.pins_after_commits.ensures.counted;
  };
}
