use Rattle.desk_tests.proofs.tests.at_once.Given as goal

-- the foyer that was just made
abbrev pub ghosts-call_for_one_vehicle : goal.ghosts-call_for_one_vehicle
ghosts-call_for_one_vehicle a b = record { book = b.foyer.room.book; opening = b.foyer.room.opening }

-- the second foyer
abbrev pub ghosts-call_for_two_vehicles : goal.ghosts-call_for_two_vehicles
ghosts-call_for_two_vehicles a b = record { book = b.foyer.room.book; opening = b.foyer.room.opening }
