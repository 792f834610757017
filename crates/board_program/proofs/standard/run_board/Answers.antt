use Rattle.std.proofs.Common.{◌≡◌, ◌∙◌, List, ℕ, Option, None, Some, refl, ap, subst}
use Rattle.std.specs.Io.KnownBytes.{Keeps}
use Rattle.std.proofs.lemmas.Result.{err_from_is_err_and}
use Rattle.callback_store.specs.Registry.{tables}
use Rattle.callback_store.specs.Tables.{matrix_table, stay_table, vector_table}
use Rattle.dimension_core.specs.Setting.{Setting}
use Rattle.dimension_core.specs.Setup.{setting}
use Rattle.board_core.specs.Boards.{history}
use Rattle.board_rules.specs.History.{History}
use Rattle.board_text.specs.BoardSteps.{desk_state, IsBoardStep, LacksMemory}
use Rattle.line_engine.specs.WholeRuns.{IsAnswered, IsStopped}
use Rattle.solomon_reader.specs.Instances.{view}
use Rattle.program_parts.specs.Standard.{AreSitesOf}
use Rattle.program_parts.specs.StandardLaws.{standard_by}
use Rattle.board_program.specs.Joined.{IsCutOff}
use Rattle.board_program.specs.Standard.{opening_with, opening_of}
use Rattle.board_program.proofs.standard.run_board.Goals as goal

pub standard_for-requires : goal.standard_for-requires
standard_for-requires g c =
    let s = c.in_ok-network.network in
    standard_by s (setting c.in_ok-setup.setup) c.size.result c.vehicles.result c.in_ok-cost.cost c.in_ok-demand.demand c.in_ok-way.way
    (tables c.new-registry.result) (tables c.register_vector.new.self) (tables c.register_stays.new.self) (tables c.register_matrix.new.self)
    (vector_table c.in_ok-demands.field-0) (stay_table c.in_ok-times.field-0) (matrix_table c.in_ok-travel_matrix.field-0) c.in_ok-pair.pair.items
    c.in_ok-setup.ensures.ok c.size.ensures.value c.vehicles.ensures
    c.new-registry.ensures c.in_ok-demand.ensures.ok c.in_ok-way.ensures.ok c.in_ok-cost.ensures.ok
    c.in_ok-demands.ensures c.in_ok-times.ensures c.in_ok-travel_matrix.ensures c.in_ok-pair.ensures.ok
    c.in_ok-demand.ensures.id c.in_ok-way.ensures.id c.in_ok-cost.ensures.id

pub returns-clause-ok : goal.returns-clause-ok
returns-clause-ok g c =
    let s = c.in_ok-network.network in
    let of : AreSitesOf (view c.args.instance) s = record { vehicles = c.in_ok-network.ensures.vehicles; capacity = c.in_ok-network.ensures.capacity; nodes = c.in_ok-network.ensures.nodes; network = c.in_ok-network.ensures.sound } in
    let opens : history c.in_ok-board.board ≡ opening_of s 1 =
    c.in_ok-board.ensures ∙ ap (λ (x : Setting). opening_with x 1) (ap (λ x. setting x) c.in_ok-new.ensures.ok ∙ c.standard_for.ensures) in
    let new = desk_state (history c.run_noted_lines.new.front.board) c.run_noted_lines.new.front.desk c.run_noted_lines.new.front.turn in
    record {
      sites = s;
      of = of;
      new = new;
      answered = subst (λ (h : History). IsAnswered IsBoardStep (desk_state h 1 1) new (g.I.Read.remaining c.args.script.now) (g.I.Read.remaining c.run_noted_lines.new.reader) (g.W.Write.contents c.args.writer.now) (g.W.Write.contents c.run_noted_lines.new.writer) c.in_ok-run_noted_lines.field-0.lines c.in_ok-run_noted_lines.field-0.refused) opens
          c.in_ok-run_noted_lines.ensures.ok;
    }

pub returns-in_err-run_noted_lines-clause-err : goal.returns-in_err-run_noted_lines-clause-err
returns-in_err-run_noted_lines-clause-err g c =
    let s = c.in_ok-network.network in
    let of : AreSitesOf (view c.args.instance) s = record { vehicles = c.in_ok-network.ensures.vehicles; capacity = c.in_ok-network.ensures.capacity; nodes = c.in_ok-network.ensures.nodes; network = c.in_ok-network.ensures.sound } in
    let opens : history c.in_ok-board.board ≡ opening_of s 1 =
    c.in_ok-board.ensures ∙ ap (λ (x : Setting). opening_with x 1) (ap (λ x. setting x) c.in_ok-new.ensures.ok ∙ c.standard_for.ensures) in
    let new = desk_state (history c.run_noted_lines.new.front.board) c.run_noted_lines.new.front.desk c.run_noted_lines.new.front.turn in
    let p = err_from_is_err_and c.from_residual-in_err-run_noted_lines.result c.from_residual-in_err-run_noted_lines.ensures.1 in
    let cut : IsCutOff (view c.args.instance) (g.I.Read.remaining c.args.script.now) (g.I.Read.remaining c.run_noted_lines.new.reader) (g.W.Write.contents c.args.writer.now) (g.W.Write.contents c.run_noted_lines.new.writer) c.in_err-run_noted_lines.field-0.0 = record {
      sites = s;
      of = of;
      new = new;
      stopped = subst (λ (h : History). IsStopped IsBoardStep LacksMemory c.in_err-run_noted_lines.field-0.0 (desk_state h 1 1) new (g.I.Read.remaining c.args.script.now) (g.I.Read.remaining c.run_noted_lines.new.reader) (g.W.Write.contents c.args.writer.now) (g.W.Write.contents c.run_noted_lines.new.writer)) opens
          c.in_err-run_noted_lines.ensures.err;
    } in
    rw (p.1, p.2) cut

-- what was not touched is kept
untouched : (bytes : Option (List ℕ)) → Keeps bytes bytes
untouched None = tt
untouched (Some xs) = refl

pub returns-in_err-board-clause-err : goal.returns-in_err-board-clause-err
returns-in_err-board-clause-err g c =
    let p = err_from_is_err_and c.from_residual-in_err-board.result c.from_residual-in_err-board.ensures.1 in
    rw (p.1, p.2) (untouched _, untouched _)
