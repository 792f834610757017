use Rattle.board_rules.proofs.Spots.{vehicle_found, vehicle_missing, spot_found, spot_missing, spot_stands}
use Rattle.board_rules.proofs.laws.customers_have_one_spot.Goals as goal

pub returns : goal.returns
returns c =
    let law = c.laws_below.ensures in
    record {
      vehicle = vehicle_found law.stands law.among;
      spot = spot_found law.stands law.among;
      stands = spot_stands law.stands law.among;
      no_vehicle = vehicle_missing law.stands law.among;
      no_spot = spot_missing law.stands law.among;
    }
