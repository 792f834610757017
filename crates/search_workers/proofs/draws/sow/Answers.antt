use Rattle.std.proofs.Common.{ap}
use Rattle.search_workers.specs.Draws.{stream_in, seeded}
use Rattle.search_workers.proofs.draws.sow.Goals as goal

pub returns : goal.returns
unfolding seeded
returns c = ap stream_in c.seed_from_u64.ensures
