use Rattle.hostile_tests.proofs.scarce.insist_on_rows.Given as goal

abbrev pub invariant-loop-row : goal.invariant-loop-row
invariant-loop-row g l = g.A.Attempt.may l.attempt
