use Rattle.std.proofs.Common.{arith}
use Rattle.std.proofs.lemmas.Grind.{common_steps}
use Rattle.route_parts.proofs.Keeping.{first_at}
use Rattle.route_parts.proofs.fits.next_stop.Goals as goal

pub returns-else-is_empty : goal.returns-else-is_empty
returns-else-is_empty c = first_at c.args.back.now (grind (arith, common_steps))
