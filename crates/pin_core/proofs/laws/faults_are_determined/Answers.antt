use Rattle.pin_core.proofs.Faults.{one_fault, fault_excludes, one_fault_with, fault_excludes_with}
use Rattle.pin_core.proofs.laws.faults_are_determined.Goals as goal

pub returns-clause-only : goal.returns-clause-only
returns-clause-only c = one_fault

pub returns-clause-excludes : goal.returns-clause-excludes
returns-clause-excludes c = fault_excludes

pub returns-clause-only_with : goal.returns-clause-only_with
returns-clause-only_with c = one_fault_with

pub returns-clause-excludes_with : goal.returns-clause-excludes_with
returns-clause-excludes_with c = fault_excludes_with
