use Rattle.hostile_tests.proofs.boards.all_go_through.Given as goal

abbrev pub invariant-loop-script : goal.invariant-loop-script
invariant-loop-script g l = g.A.Attempt.may l.attempt
