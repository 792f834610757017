use Rattle.dimension_core.proofs.Outs.{first_out_unique, out_fits}
use Rattle.dimension_core.proofs.feasible.first_out_is_alone.Goals as goal

pub returns-clause-one : goal.returns-clause-one
returns-clause-one c = first_out_unique

pub returns-clause-out : goal.returns-clause-out
returns-clause-out c = out_fits
