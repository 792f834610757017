use Rattle.std.proofs.Common.{sym, ap, ◌∙◌}
use Rattle.std.proofs.Math.Logic.{∥∥₁_map}
use Rattle.rbac_core.specs.Step.{after}
use Rattle.rbac_core.specs.Tried.{Tried}
use Rattle.permission_table.specs.Tables.{TablesState}
use Rattle.permission_table.specs.Compiled.{WillBeCompiled}
use Rattle.board_state.proofs.commands.keep_with_rows.Goals as goal

pub returns-in-Ok-clause-made : goal.returns-in-Ok-clause-made
returns-in-Ok-clause-made c =
    let next = after c.args.policy.now.now c.args.command.now in
    let sizes = c.in-Ok.ensures.sizes in
    record {
      ready = tt;
      made = ap (λ (t : Tried). t.now) c.keep.ensures.kept ∙ c.requires.tried;
      compiled = ∥∥₁_map c.in-Ok.ensures.compiled (λ (will : WillBeCompiled c.in-Ok.rows next). c.put.ensures.compiled next will);
      sizes = record {
        customers = sizes.customers ∙ sym (ap (λ (t : TablesState). t.customers) c.put.ensures.kept);
        vehicles = sizes.vehicles ∙ sym (ap (λ (t : TablesState). t.vehicles) c.put.ensures.kept);
      };
    }
