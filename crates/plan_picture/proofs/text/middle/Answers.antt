use Rattle.std.proofs.Common.{arith}
use Rattle.plan_picture.proofs.text.middle.Goals as goal

pub overflow_add-result : goal.overflow_add-result
overflow_add-result c = omega arith
