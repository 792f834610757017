use Rattle.denial_facts.proofs.Totals.{totals_over}
use Rattle.denial_facts.proofs.laws.totals_above_the_capacity.Goals as goal

pub returns : goal.returns
returns c = totals_over
