use Rattle.std.proofs.Common.{◌∙◌, sym}
use Rattle.permission_core.specs.declared.objects.Operation.TheVariants as operations
use Rattle.permission_core.specs.declared.objects.Object.TheVariants as objects
use Rattle.board_state.proofs.Commanding.{allowed_open}
use Rattle.board_state.proofs.state.State.pin_guard.Goals as goal

pub is_open-requires : goal.is_open-requires
is_open-requires g c = λ e.
    allowed_open c.args.self.now.tables c.args.self.now.policy.now c.requires c.args.session operations.Pin (objects.Customer c.args.customer) (sym c.may-may.ensures.value ∙ e)
