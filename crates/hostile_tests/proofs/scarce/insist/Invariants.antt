use Rattle.hostile_tests.proofs.scarce.insist.Given as goal

abbrev pub invariant-loop-refused : goal.invariant-loop-refused
invariant-loop-refused g l = g.A.Attempt.may l.attempt
