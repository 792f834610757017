use Rattle.std.proofs.Common.{◌≤◌, arith, length}
use Rattle.board_rules.specs.Good.{state_at}
use Rattle.board_rules.proofs.Currency.{same_route}
use Rattle.board_rules.proofs.laws.current_vehicles_keep_their_routes.Goals as goal

pub returns : goal.returns
returns c h k base v legal few made low current =
    same_route c.laws_below.ensures h.opening h.entries legal v low k base few (let e : base ≤ length (state_at h k).commits = omega (arith, made) in e) current
