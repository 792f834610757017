use Rattle.move_judge.proofs.laws.laws_below.Goals as goal

pub returns : goal.returns
returns c = record {
  replaced = c.routes_replaced.ensures;
  known = c.routes_are_known.ensures;
  places = c.customers_stand_by_route.ensures;
  freezes = c.freezes_by_named.ensures;
  possible = c.moves_are_possible.ensures.moves;
  names = c.moves_name_vehicles.ensures;
  plans = c.moves_keep_plans.ensures;
  untouched = c.moves_keep_the_untouched.ensures;
  fronts = c.fronts_by_first_change.ensures;
  inside = c.moves_inside_rearrange.ensures;
  between = c.moves_between_carry_over.ensures;
  parts = c.shifts_in_parts.ensures;
}
