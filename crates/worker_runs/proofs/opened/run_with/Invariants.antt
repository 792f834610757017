use Rattle.worker_runs.proofs.opened.run_with.Given as goal

-- the foyer that was just made
abbrev pub ghosts-hall_run : goal.ghosts-hall_run
ghosts-hall_run a b = record { book = b.foyer.room.book; opening = b.foyer.room.opening }
