use Rattle.way_costs.proofs.Loops.{edges_room, edges_whole}
use Rattle.way_costs.specs.Ways.{AreEdges}
use Rattle.callback_store.specs.Tables.{table_at}
use Rattle.dimension_core.specs.Setup.{setting}
use Rattle.std.proofs.lemmas.Result.{err_from_is_err_and}
use Rattle.way_costs.proofs.Cells.{written_back}
use Rattle.std.proofs.Common.{◌∙◌, ℕ, List, length, subst}
use Rattle.way_costs.proofs.table.fill_edges.Goals as goal

pub overflow_sub-stops : goal.overflow_sub-stops
overflow_sub-stops g c = c.requires.some

pub ask_edges-requires-clause-known : goal.ask_edges-requires-clause-known
ask_edges-requires-clause-known g c = c.requires.known

pub ask_edges-requires-clause-room : goal.ask_edges-requires-clause-room
ask_edges-requires-clause-room g c = edges_room _ (length c.args.stops.now) (c.as_mut_slice.ensures.len ∙ c.in_ok-resize.ensures.len) c.requires.some

pub returns : goal.returns
returns g c =
    subst (λ (xs : List ℕ). AreEdges (table_at (setting c.args.setup.now).tables (setting c.args.setup.now).cost) c.args.stops.now xs)
    (written_back c.resize.new.self.len c.ask_edges.new.edges _ (edges_whole _ (length c.args.stops.now) _ c.ask_edges.ensures.counted c.in_ok-resize.ensures.len)) c.ask_edges.ensures

pub returns-in_err-resize : goal.returns-in_err-resize
returns-in_err-resize g c = let p = err_from_is_err_and c.from_residual.result c.from_residual.ensures.1 in rw p.1 tt
