use Rattle.pin_core.proofs.Released.{commit_kept, commit_gone, commit_none, commit_holding, commit_same, length-pins_left, held_or_touched}
use Rattle.pin_core.proofs.laws.pins_after_commits.Goals as goal

pub returns-clause-kept : goal.returns-clause-kept
returns-clause-kept c = commit_kept

pub returns-clause-gone : goal.returns-clause-gone
returns-clause-gone c = commit_gone

pub returns-clause-none : goal.returns-clause-none
returns-clause-none c = commit_none

pub returns-clause-holding : goal.returns-clause-holding
returns-clause-holding c = commit_holding

pub returns-clause-same : goal.returns-clause-same
returns-clause-same c = commit_same

pub returns-clause-counted : goal.returns-clause-counted
returns-clause-counted c = λ s routes. length-pins_left routes 1 s.pins

pub returns-clause-touched : goal.returns-clause-touched
returns-clause-touched c = held_or_touched
