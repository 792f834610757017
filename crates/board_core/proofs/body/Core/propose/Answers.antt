use Rattle.board_core.proofs.Keeping.{none_counted}
use Rattle.board_core.proofs.body.Core.propose.Goals as goal

pub take_proposal-requires-clause-kept : goal.take_proposal-requires-clause-kept
take_proposal-requires-clause-kept g c = c.requires

pub returns-in-Some-clause-most : goal.returns-in-Some-clause-most
returns-in-Some-clause-most g c = none_counted _ _ _

pub returns-in-Ok-clause-kept : goal.returns-in-Ok-clause-kept
returns-in-Ok-clause-kept g c = c.take_proposal.ensures.kept

pub returns-in-Ok-clause-desks : goal.returns-in-Ok-clause-desks
returns-in-Ok-clause-desks g c = c.take_proposal.ensures.desks

pub returns-in-Ok-clause-untried : goal.returns-in-Ok-clause-untried
returns-in-Ok-clause-untried g c = c.take_proposal.ensures.untried

pub returns-in-Ok-clause-most : goal.returns-in-Ok-clause-most
returns-in-Ok-clause-most g c = c.take_proposal.ensures.most

pub returns-in-Err-clause-kept : goal.returns-in-Err-clause-kept
returns-in-Err-clause-kept g c = c.take_proposal.ensures.kept

pub returns-in-Err-clause-desks : goal.returns-in-Err-clause-desks
returns-in-Err-clause-desks g c = c.take_proposal.ensures.desks

pub returns-in-Err-clause-untried : goal.returns-in-Err-clause-untried
returns-in-Err-clause-untried g c = c.take_proposal.ensures.untried

pub returns-in-Err-clause-most : goal.returns-in-Err-clause-most
returns-in-Err-clause-most g c = c.take_proposal.ensures.most

pub returns-in-Ok-clause-ok : goal.returns-in-Ok-clause-ok
returns-in-Ok-clause-ok g c = c.in-Ok.ensures.ok

pub returns-in-Ok-clause-work : goal.returns-in-Ok-clause-work
returns-in-Ok-clause-work g c = c.in-Ok.ensures.work

pub returns-in-Err-clause-err : goal.returns-in-Err-clause-err
returns-in-Err-clause-err g c = c.in-Err.ensures.err
