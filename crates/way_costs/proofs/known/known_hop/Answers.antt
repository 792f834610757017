use Rattle.callback_store.specs.Tables.{table_at}
use Rattle.dimension_core.specs.Setup.{setting}
use Rattle.way_costs.proofs.Cells.{answers_fit, answer_fits, answers_in, nodes_fit, not_both, way_away}
use Rattle.std.proofs.Common.{◌∙◌, ◌+◌, ◌*◌, ℕ, ap, slice_index, sym, false}
use Rattle.way_costs.proofs.known.known_hop.Goals as goal

pub overflow_add-nodes : goal.overflow_add-nodes
overflow_add-nodes g c = nodes_fit _ _ c.customers.ensures.value c.customers.ensures.sound.few_customers

pub overflow_mul-result : goal.overflow_mul-result
overflow_mul-result g c = answers_fit _ _ _ c.customers.ensures.value c.customers.ensures.sound.few_customers c.requires.from

pub overflow_add-result : goal.overflow_add-result
overflow_add-result g c = answer_fits _ _ _ _ c.customers.ensures.value c.customers.ensures.sound.few_customers c.requires.from c.requires.to

pub bounds-answers-i : goal.bounds-answers-i
bounds-answers-i g c = answers_in _ _ _ _ _ c.requires.known.sized c.customers.ensures.value c.requires.from c.requires.to

pub returns : goal.returns
returns g c =
    ap (λ (n : ℕ). slice_index c.args.answers.now (c.args.i * (n + 1) + c.args.j)) c.customers.ensures.value ∙ c.requires.known.at c.args.i c.args.j
    ∙ sym (way_away false (table_at (setting c.args.setup.now).tables (setting c.args.setup.now).cost) c.args.i c.args.j (not_both _ _ c.else-i-eq0.either))
