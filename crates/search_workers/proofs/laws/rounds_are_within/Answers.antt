use Rattle.std.proofs.Common.{[]}
use Rattle.search_workers.proofs.Prefixes.{prefix_self}
use Rattle.search_workers.proofs.Within.{all_within}
use Rattle.search_workers.proofs.laws.rounds_are_within.Goals as goal

pub returns : goal.returns
returns c job each first seen last run on = all_within job [] each first first seen last (prefix_self first) run on
