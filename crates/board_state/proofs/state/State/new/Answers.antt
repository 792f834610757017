use Rattle.dimension_core.specs.Setup.{setting}
use Rattle.board_state.proofs.Opened.{opening_held}
use Rattle.board_state.proofs.state.State.new.Goals as goal

pub returns : goal.returns
returns g c =
    opening_held (setting c.args.setup.now) c.customers.result c.vehicles.result _ c.customers.ensures.value c.vehicles.ensures.value c.in_ok-policy.ensures
    c.in_ok-plan.ensures.plan c.in_ok-plan.ensures.pins c.in_ok-plan.ensures.cache
