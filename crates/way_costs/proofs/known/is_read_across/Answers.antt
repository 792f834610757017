use Rattle.dimension_core.specs.Setup.{setting}
use Rattle.way_costs.proofs.Cells.{read_along}
use Rattle.way_costs.proofs.known.is_read_across.Goals as goal

pub returns-then-turned : goal.returns-then-turned
returns-then-turned g c =
    read_along (setting c.args.setup.now) _ _ c.args.turned c.is_symmetric.result c.registry.ensures.value c.cost.ensures.value c.registry.ensures.sound c.if-turned.true c.is_symmetric.ensures
