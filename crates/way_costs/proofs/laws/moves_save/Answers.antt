use Rattle.way_costs.proofs.Below.{Laws}
use Rattle.way_costs.proofs.Saved.{shift_by, shift_forwards_by, shift_backwards_by, swap_by, swap_inside_by, swap_next_by, cross_by, reverse_by}
use Rattle.way_costs.proofs.laws.moves_save.Goals as goal

pub returns : goal.returns
returns c =
    let law : Laws = record {
      replaced = c.routes_replaced.ensures;
      costs = c.costs_differ_by_named.ensures;
      possible = c.moves_are_possible.ensures.moves;
      names = c.moves_name_vehicles.ensures;
      plans = c.moves_keep_plans.ensures;
    } in
    record {
      shift = shift_by law;
      forwards = shift_forwards_by law;
      backwards = shift_backwards_by law;
      swap = swap_by law;
      swap_inside = swap_inside_by law;
      swap_next = swap_next_by law;
      cross = cross_by law;
      reverse = reverse_by law;
    }
