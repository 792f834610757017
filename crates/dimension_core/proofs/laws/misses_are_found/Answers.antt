use Rattle.dimension_core.proofs.Misses.{miss_start, miss_next, miss_unique}
use Rattle.dimension_core.proofs.laws.misses_are_found.Goals as goal

pub returns : goal.returns
returns c = record { start = miss_start; next = miss_next; one = miss_unique }
