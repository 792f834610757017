use Rattle.std.proofs.Common.{◌≡◌, ◌≤◌, ◌<◌, ◌+◌, ◌⊎◌, ℕ, length, drop, slice_get, Some, true}
use Rattle.plan_core.specs.declared.touch.Touch.{Touch}
use Rattle.plan_core.specs.Drafts.{drafts_of}
use Rattle.plan_core.specs.Plan.{with_routes}
use Rattle.pin_core.specs.Pins.{IsHeld}
use Rattle.permission_table.specs.Tables.{allows}
use Rattle.permission_core.specs.declared.objects.Operation.TheVariants as operations
use Rattle.permission_core.specs.declared.objects.Object.TheVariants as objects
use Rattle.board_state.specs.Work.{WorksJust, leaving}
use Rattle.board_state.proofs.state.State.overrides.Given as goal

abbrev pub invariant-loop-touch : goal.invariant-loop-touch
invariant-loop-touch l = record {
  work : (n : ℕ) × WorksJust l.fn.meter l.meter 0 n
      × (n + leaving l.self.pins (with_routes (drafts_of l.self.plan.routes l.drafts) l.self.plan.routes) (drop l.touch-index l.touched)
      ≡ leaving l.self.pins (with_routes (drafts_of l.self.plan.routes l.drafts) l.self.plan.routes) l.touched);
  sized : length l.free.items ≡ l.touch-index;
  within : l.touch-index ≤ length l.touched;
  leave : (k : ℕ) (t : Touch) → slice_get l.touched k ≡ Some t → slice_get l.free.items k ≡ Some true
      → ¬ IsHeld l.self.pins (with_routes (drafts_of l.self.plan.routes l.drafts) l.self.plan.routes) t.customer;
  each : (k : ℕ) (t : Touch) → k < l.touch-index → slice_get l.touched k ≡ Some t
      → IsHeld l.self.pins (with_routes (drafts_of l.self.plan.routes l.drafts) l.self.plan.routes) t.customer
      ⊎ (slice_get l.free.items k ≡ Some (allows l.self.tables l.session operations.Override (objects.Customer t.customer)));
}
