use Rattle.std.specs.Float.{binary64}
use lib.Ieee.{of_bits}
use Rattle.travel_table.proofs.Numbers.{NotNan-add}
use Rattle.travel_table.proofs.square_root.whole_part.Goals as goal

pub float_to_bits-result : goal.float_to_bits-result
unfolding of_bits
float_to_bits-result c = NotNan-add binary64 c.args.x _ _ _ c.requires
