use Rattle.board_text.proofs.note.explained.Goals as goal

pub returns-in-Bound : goal.returns-in-Bound
returns-in-Bound g c = rw c.in-Bound.is c.bound_note.ensures

pub returns-in-AccessCustomer : goal.returns-in-AccessCustomer
returns-in-AccessCustomer g c = λ b base same verdict. rw c.in-AccessCustomer.is c.customer_note.ensures

pub returns-in-Stale : goal.returns-in-Stale
returns-in-Stale g c = λ b base same verdict. rw c.in-Stale.is c.stale_note.ensures
