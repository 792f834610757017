use Rattle.dispatch.proofs.words.run_words.Goals as goal

pub returns-in-Ok-clause-performed : goal.returns-in-Ok-clause-performed
returns-in-Ok-clause-performed g c = rw c.in-Ok.is (rw c.as_slice.ensures.value at c.perform.ensures.performed)

pub returns-in-Ok-clause-input : goal.returns-in-Ok-clause-input
returns-in-Ok-clause-input g c = rw c.in-Ok.is (rw c.as_slice.ensures.value at c.perform.ensures.input)

pub returns-in-Ok-clause-notes : goal.returns-in-Ok-clause-notes
returns-in-Ok-clause-notes g c = rw c.in-Ok.is (rw c.as_slice.ensures.value at c.perform.ensures.notes)
