use Rattle.dimension_core.proofs.Joints.{onward_end, onward_push, onward_none, joint}
use Rattle.dimension_core.proofs.laws.spans_meet.Goals as goal

pub returns : goal.returns
returns c = record { end = onward_end; push = onward_push; none = onward_none; joint = joint }
