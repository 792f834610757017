use Rattle.rbac_core.proofs.MemoryLaws.{other_reason}
use Rattle.rbac_core.proofs.steps.refusals_are_not_of_memory.Goals as goal

pub returns : goal.returns
returns c p command = other_reason p command
