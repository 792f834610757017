use Rattle.callback_store.specs.Tables.{table_at}
use Rattle.std.proofs.Common.{◌∙◌, sym, false}
use Rattle.dimension_core.specs.Setup.{setting}
use Rattle.way_costs.proofs.Cells.{id_known, node_known, answer_of, neither, way_away}
use Rattle.way_costs.proofs.hops.hop.Goals as goal

pub ask-requires-clause-registered : goal.ask-requires-clause-registered
ask-requires-clause-registered g c = id_known (setting c.args.setup.now) _ _ c.registry.ensures.value c.cost.ensures.registered

pub ask-requires-clause-from : goal.ask-requires-clause-from
ask-requires-clause-from g c = node_known (setting c.args.setup.now) _ _ c.registry.ensures.value c.registry.ensures.sound c.requires.from

pub ask-requires-clause-to : goal.ask-requires-clause-to
ask-requires-clause-to g c = node_known (setting c.args.setup.now) _ _ c.registry.ensures.value c.registry.ensures.sound c.requires.to

pub returns-clause-value : goal.returns-clause-value
returns-clause-value g c =
    answer_of (setting c.args.setup.now) _ _ c.args.i c.args.j _ c.registry.ensures.value c.cost.ensures.value c.ask.ensures.answer
    ∙ sym (way_away false (table_at (setting c.args.setup.now).tables (setting c.args.setup.now).cost) c.args.i c.args.j (neither _ _ c.else-j-eq0.either))

pub returns-clause-small : goal.returns-clause-small
returns-clause-small g c = c.ask.ensures.small
