use Rattle.example_desks.proofs.hall.open.Given as goal

-- the board that was just opened
abbrev pub ghosts-three_desks : goal.ghosts-three_desks
ghosts-three_desks a b = record { book = b.room.book; opening = b.room.opening }
