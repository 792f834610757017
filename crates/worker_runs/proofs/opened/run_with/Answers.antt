use Rattle.std.proofs.Common.{rules, ◌≡◌, ◌+◌, ◌∙◌, refl, sym, ap, subst}
use Rattle.callback_store.specs.Registry.{tables}
use Rattle.callback_store.specs.Tables.{matrix_table, stay_table, vector_table}
use Rattle.dimension_core.specs.Setting.{Setting}
use Rattle.dimension_core.specs.Setup.{setting}
use Rattle.board_core.specs.Boards.{history}
use Rattle.board_rules.specs.History.{History, Opening}
use Rattle.solomon_reader.specs.Instances.{view}
use Rattle.solomon_reader.specs.declared.instance.Instance.{Instance}
use Rattle.program_parts.specs.Standard.{AreSitesOf, standard_setting}
use Rattle.program_parts.specs.StandardLaws.{standard_by}
use Rattle.board_program.specs.Standard.{opening_with, opening_of}
use Rattle.worker_runs.specs.Scripted.{IsOpened}
use Rattle.worker_runs.proofs.Served.{desks_by, hall_made, hall_unmade, opening_by, script_short}
use Rattle.worker_runs.proofs.opened.run_with.Goals as goal

pub opened_for-requires : goal.opened_for-requires
opened_for-requires g c =
    let s = c.in_ok-network.network in
    let standard : setting c.in_ok-setup.setup ≡ standard_setting s =
    standard_by s (setting c.in_ok-setup.setup) c.size.result c.vehicles.result c.in_ok-cost.cost c.in_ok-demand.demand c.in_ok-way.way
    (tables c.new-registry.result) (tables c.register_vector.new.self) (tables c.register_stays.new.self) (tables c.register_matrix.new.self)
    (vector_table c.in_ok-demands.field-0) (stay_table c.in_ok-times.field-0) (matrix_table c.in_ok-travel_matrix.field-0) c.in_ok-pair.pair.items
    c.in_ok-setup.ensures.ok c.size.ensures.value c.vehicles.ensures
    c.new-registry.ensures c.in_ok-demand.ensures.ok c.in_ok-way.ensures.ok c.in_ok-cost.ensures.ok
    c.in_ok-demands.ensures c.in_ok-times.ensures c.in_ok-travel_matrix.ensures c.in_ok-pair.ensures.ok
    c.in_ok-demand.ensures.id c.in_ok-way.ensures.id c.in_ok-cost.ensures.id in
    let opens : history c.in_ok-board.board ≡ opening_of s (c.args.job.orders.workers + 1) =
    c.in_ok-board.ensures ∙ ap (λ (x : Setting). opening_with x (c.args.job.orders.workers + 1)) (ap (λ x. setting x) c.in_ok-setup-2.ensures.ok ∙ standard) in
    let of : AreSitesOf (view c.args.job.instance) s = record { vehicles = c.in_ok-network.ensures.vehicles; capacity = c.in_ok-network.ensures.capacity; nodes = c.in_ok-network.ensures.nodes; network = c.in_ok-network.ensures.sound } in
    let same : c.of-first.result.value ≡ c.args.job.instance = search rules in
    record { sites = s; of = subst (λ (x : Instance). AreSitesOf (view x) s) (sym same) of; opens = opens }

pub returns-in-Err : goal.returns-in-Err
returns-in-Err g c =
    let same : c.of-first.result.value ≡ c.args.job.instance = search rules in
    let k : IsOpened (view c.args.job.instance) c.args.job.orders (history c.in_ok-board.board) = subst (λ (x : Instance). IsOpened (view x) c.args.job.orders (history c.in_ok-board.board)) same c.opened_for.ensures in
    script_short (view c.args.job.instance) c.args.job.orders _ (history c.in_ok-board.board) c.in-Err.fault _ _ k c.in-Ok.ensures.ok c.in-Err.ensures.err refl

pub returns-in_default-make_foyer : goal.returns-in_default-make_foyer
returns-in_default-make_foyer g c =
    let same : c.of-first.result.value ≡ c.args.job.instance = search rules in
    let k : IsOpened (view c.args.job.instance) c.args.job.orders (history c.in_ok-board.board) = subst (λ (x : Instance). IsOpened (view x) c.args.job.orders (history c.in_ok-board.board)) same c.opened_for.ensures in
    hall_unmade (view c.args.job.instance) c.args.job.orders _ (history c.in_ok-board.board) _ _ _ _ k c.in-Ok.ensures.ok c.in-Ok-run_noted_lines.ensures.ok refl

pub hall_run-requires-clause-lines : goal.hall_run-requires-clause-lines
hall_run-requires-clause-lines g c κs within =
    let same = opening_by (history c.in_ok-board.board) c.args.job.orders _ _ _ _ _ _ _ _ c.in-Ok-make_foyer.foyer.room.opening c.in-Ok.ensures.ok c.in-Ok-run_noted_lines.ensures.ok c.in-Ok-make_foyer.ensures.opening in
    ap (λ x. setting x) c.in_ok-lines.ensures.cases ∙ (ap (λ (x : History). x.opening.setting) (sym c.in_ok-board.ensures) ∙ ap (λ (x : Opening). x.setting) (sym same))

pub hall_run-requires-clause-desks : goal.hall_run-requires-clause-desks
hall_run-requires-clause-desks g c κs within =
    let same : c.of-first.result.value ≡ c.args.job.instance = search rules in
    let k : IsOpened (view c.args.job.instance) c.args.job.orders (history c.in_ok-board.board) = subst (λ (x : Instance). IsOpened (view x) c.args.job.orders (history c.in_ok-board.board)) same c.opened_for.ensures in
    desks_by (view c.args.job.instance) c.args.job.orders (history c.in_ok-board.board) c.in-Ok-make_foyer.foyer.room.opening k
    (opening_by (history c.in_ok-board.board) c.args.job.orders _ _ _ _ _ _ _ _ c.in-Ok-make_foyer.foyer.room.opening c.in-Ok.ensures.ok c.in-Ok-run_noted_lines.ensures.ok c.in-Ok-make_foyer.ensures.opening)

pub returns : goal.returns
returns g c =
    let same : c.of-first.result.value ≡ c.args.job.instance = search rules in
    let k : IsOpened (view c.args.job.instance) c.args.job.orders (history c.in_ok-board.board) = subst (λ (x : Instance). IsOpened (view x) c.args.job.orders (history c.in_ok-board.board)) same c.opened_for.ensures in
    hall_made (view c.args.job.instance) c.args.job.orders _ (history c.in_ok-board.board) _ _ _ _ _ c.in-Ok-make_foyer.foyer.room.opening c.in-Ok-make_foyer.foyer.room.entries _ _
    k c.in-Ok.ensures.ok c.in-Ok-run_noted_lines.ensures.ok c.in-Ok-make_foyer.ensures.opening c.in-Ok-make_foyer.ensures.entries c.hall_run.ensures c.either.ensures
