use Rattle.rbac_core.proofs.NumberLaws.{step_numbered, rise_next, rise_same, rise_on, rise_used}
use Rattle.rbac_core.proofs.numbers.session_numbers_rise.Goals as goal

pub returns-clause-step : goal.returns-clause-step
returns-clause-step c p session command = step_numbered p session command

pub returns-clause-next : goal.returns-clause-next
returns-clause-next c p q is = rise_next p q is

pub returns-clause-same : goal.returns-clause-same
returns-clause-same c p = rise_same p

pub returns-clause-on : goal.returns-clause-on
returns-clause-on c p q r first then = rise_on p q r first then

pub returns-clause-used : goal.returns-clause-used
returns-clause-used c p q used rises = rise_used p q used rises
