use Rattle.std.proofs.Common.{◌≡◌, ◌≤◌, length, find, not, drop}
use Rattle.permission_table.specs.Tables.{allows}
use Rattle.permission_core.specs.declared.objects.Operation.TheVariants as operations
use Rattle.permission_core.specs.declared.objects.Object.TheVariants as objects
use Rattle.board_state.specs.Work.{WorksJust}
use Rattle.board_state.proofs.state.State.first_barred_customer.Given as goal

abbrev pub invariant-loop-touch : goal.invariant-loop-touch
invariant-loop-touch l = record {
  left : find (λ t. not (allows l.self.tables l.session operations.Move (objects.Customer t.customer))) (drop l.touch-index l.touched)
      ≡ find (λ t. not (allows l.self.tables l.session operations.Move (objects.Customer t.customer))) l.touched;
  work : WorksJust l.fn.meter l.meter 0 l.touch-index;
  within : l.touch-index ≤ length l.touched;
}
