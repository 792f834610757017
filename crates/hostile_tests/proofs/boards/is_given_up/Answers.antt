use Rattle.hostile_tests.proofs.boards.is_given_up.Goals as goal

pub returns : goal.returns
returns g c = c.give_up.ensures.kept _ c.prepare.ensures.kept
