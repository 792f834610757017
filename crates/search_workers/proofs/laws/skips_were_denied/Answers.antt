use Rattle.search_workers.proofs.Denying.{were_denied}
use Rattle.search_workers.proofs.laws.skips_were_denied.Goals as goal

pub returns : goal.returns
returns c = were_denied
