use Rattle.std.proofs.Common.{◌≡◌, ℕ, ◌-◌, ◌<◌, true, ap, ◌∙◌, subst, arith}
use Rattle.std.proofs.lemmas.Bool.Decides.{nat_tests}
use Rattle.std.specs.Prelude.{nat_lt, slice_set}
use Rattle.std.proofs.lemmas.List.{map-set}
use Rattle.plan_core.specs.Plan.{routes_of}
use Rattle.published_board.proofs.views.renew_one.Goals as goal

pub returns-in_ok-route : goal.returns-in_ok-route
returns-in_ok-route c =
    let less : c.args.entries < c.args.lane.now.entry = subst (λ (n : ℕ). c.args.entries < n) c.entry.ensures c.if-entry-entries.true in
    let so : nat_lt c.args.entries c.args.lane.now.entry ≡ true = grind (arith, nat_tests) in
    rw so (ap routes_of c.put.ensures
    ∙ (map-set (λ r. r.value) c.args.routes.now.items (c.vehicle.result - 1) c.in_ok-route.route
    ∙ (λ i. slice_set (routes_of c.args.routes.now.items) (c.vehicle.ensures i - 1) (c.in_ok-route.ensures i))))
