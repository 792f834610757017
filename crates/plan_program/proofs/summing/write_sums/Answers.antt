use Rattle.std.proofs.Common.{List, ℕ, subst}
use Rattle.std.specs.Prelude.{string_bytes}
use Rattle.line_engine.specs.Running.{AppendsPrefix}
use Rattle.plan_program.proofs.Holds.{on_err}
use Rattle.plan_program.proofs.Sums.{sums_is}
use Rattle.plan_program.proofs.summing.write_sums.Goals as goal

pub returns-in_err-write_whole-clause-part : goal.returns-in_err-write_whole-clause-part
returns-in_err-write_whole-clause-part g c =
    on_err _ (subst (λ (l : List ℕ). AppendsPrefix (g.W.Write.contents c.args.writer.now) (g.W.Write.contents c.write_whole.new.writer) l)
    (sums_is c.args.roads.now c.args.rows.now c.args.tours.now c.capacity.result c.vehicles.result (string_bytes c.new-text.result) (string_bytes c.push_tours.new.text) (string_bytes c.push_total.new.out) c.as_bytes.result.now c.requires.tours c.capacity.ensures.value c.vehicles.ensures.value c.new-text.ensures.bytes c.in_ok-push_tours.ensures c.in_ok-push_total.ensures c.as_bytes.ensures.value)
    c.in_err-write_whole.ensures.err)
