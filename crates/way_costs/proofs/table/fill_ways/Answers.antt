use Rattle.std.proofs.Common.{◌∙◌, List, ℕ, if◌then◌else◌, length, subst, sym}
use Rattle.std.proofs.lemmas.Result.{err_from_is_err_and}
use Rattle.callback_store.specs.Tables.{table_at}
use Rattle.dimension_core.specs.Setup.{setting}
use Rattle.way_costs.specs.Ways.{AreFloors, AreHopsFrom}
use Rattle.way_costs.proofs.Cells.{table_fits, written_back}
use Rattle.way_costs.proofs.table.fill_ways.Goals as goal

pub overflow_mul-from : goal.overflow_mul-from
overflow_mul-from g c = table_fits (length c.args.from.now) (length c.args.to.now) c.requires.short.0 c.requires.short.1

pub fill_cells-requires-clause-room : goal.fill_cells-requires-clause-room
fill_cells-requires-clause-room g c = c.as_mut_slice.ensures.len ∙ c.in_ok-resize.ensures.len

pub returns-clause-hops : goal.returns-clause-hops
returns-clause-hops g c =
    let s = setting c.args.setup.now in
    subst (λ (xs : List ℕ). AreHopsFrom c.args.turned (table_at s.tables s.cost) c.args.from.now c.args.to.now (if c.args.turned then 1 else 0) (if c.args.turned then 0 else 1) xs)
    (written_back c.resize.new.self.len c.fill_cells.new.cells _ (c.fill_cells.ensures.hops.counted ∙ sym c.in_ok-resize.ensures.len)) c.fill_cells.ensures.hops

pub returns-clause-floors : goal.returns-clause-floors
returns-clause-floors g c =
    subst (λ (xs : List ℕ). AreFloors c.args.from.now c.args.to.now (if c.args.turned then 1 else 0) (if c.args.turned then 0 else 1) xs)
    (written_back c.resize.new.self.len c.fill_cells.new.cells _ (c.fill_cells.ensures.hops.counted ∙ sym c.in_ok-resize.ensures.len)) c.fill_cells.ensures.floors

pub returns-in_err-resize-clause-hops : goal.returns-in_err-resize-clause-hops
returns-in_err-resize-clause-hops g c = let p = err_from_is_err_and c.from_residual.result c.from_residual.ensures.1 in rw p.1 tt

pub returns-in_err-resize-clause-floors : goal.returns-in_err-resize-clause-floors
returns-in_err-resize-clause-floors g c = let p = err_from_is_err_and c.from_residual.result c.from_residual.ensures.1 in rw p.1 tt
