use Rattle.std.proofs.Common.{arith}
use Rattle.std.proofs.lemmas.Grind.{common_steps}
use Rattle.route_parts.proofs.Keeping.{last_at}
use Rattle.route_parts.proofs.fits.last_stop.Goals as goal

pub returns-else-is_empty : goal.returns-else-is_empty
returns-else-is_empty c = last_at 0 c.args.front.now (grind (arith, common_steps))
