use Rattle.dimension_core.specs.Setup.{setting}
use Rattle.way_costs.proofs.Cells.{answers_at, some_both}
use Rattle.way_costs.proofs.known.known_ways.Goals as goal

pub returns : goal.returns
returns g c =
    some_both c.answers.result _ _ _ (λ a. answers_at (setting c.args.setup.now) _ _ a.now c.registry.ensures.value c.cost.ensures.value c.registry.ensures.sound)
    c.answers.ensures.sized c.answers.ensures.answers
