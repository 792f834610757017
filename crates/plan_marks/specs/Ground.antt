-- Where nodes stand on the map. All numbers are tenths of a pixel.
use Rattle.std.specs.Prelude.{ℕ, ◌+◌, ◌-◌, ◌*◌, ◌/◌}
use Rattle.solomon_reader.specs.declared.instance.Node.{Node}
use Rattle.plan_marks.specs.declared.ground.Point.{Point}
use Rattle.plan_marks.specs.declared.ground.Frame.{Frame}

-- where a node stands: the square is 6,000 wide, from (400, 1100) on, and greater second coordinates stand higher
abbrev pub point_of : Frame → Node → Point
point_of f n = record { x = 400 + (n.x - f.left) * 6000 / f.span; y = 1100 + (f.top - n.y) * 6000 / f.span }

-- how large a node is drawn: 30, and up to 40 more by its demand
abbrev pub radius_of : ℕ → Node → ℕ
radius_of most n = 30 + n.demand * 40 / most
