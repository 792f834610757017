use Rattle.std.proofs.Common.{◌≡◌, ◌<◌, ℕ, length, sym, ◌∙◌, arith, subst}
use Rattle.dimension_core.specs.Setup.{setting}
use Rattle.board_rules.specs.Listing.{unassigned_spots}
use Rattle.board_core.specs.Shown.{Grows}
use Rattle.board_core.proofs.Listings.{unassigned_seen, unassigned_past, unassigned_placed}
use Rattle.board_core.proofs.listing.push_unassigned.Goals as goal
use Rattle.board_core.proofs.listing.push_unassigned.Goals.{then-not-placed-before+then-check_in+in_ok-push, else-not-placed-before, else-not-placed-before-via-then-not-placed-before+else-check_in, else-not-placed-before-via-else-not-placed-before}

pub loop-before-preserved : goal.loop-before-preserved
loop-before-preserved g c = λ board holds marks.
    let s = setting c.args.setup.now in
    let n = c.loop-before.before in
    let within : n < length c.args.placed.now = omega (arith, c.loop-before-test.true, c.customers-before-end.ensures.value, c.requires.sized) in
    let told = marks n within in
    let before = c.loop-before.invariant board holds marks in
    elim c.if-not-placed-before.branch [
      | then-not-placed-before+then-check_in+in_ok-push w ↦
          rw w.rows-is (unassigned_seen s board c.args.session _ _ _ n w.new.result (sym told ∙ w.if-not-placed-before.true)
          (sym (w.check_in.ensures s board c.args.session holds c.requires.seen) ∙ w.if-check_in.true)
          (λ i. record { vehicle = w.new.ensures.vehicle i; place = w.new.ensures.place i; customer = w.new.ensures.customer i })
          w.new.ensures.early before w.in_ok-push.ensures.items)
      | else-not-placed-before w ↦ elim w.else-not-placed-before.branch [
        | else-not-placed-before-via-then-not-placed-before+else-check_in q ↦
            rw w.rows-is (unassigned_past s board c.args.session _ _ n (sym told ∙ q.if-not-placed-before.true) (sym (q.check_in.ensures s board c.args.session holds c.requires.seen) ∙ q.if-check_in.false) before)
        | else-not-placed-before-via-else-not-placed-before q ↦
            rw w.rows-is (unassigned_placed s board c.args.session _ _ n (sym told ∙ q.if-not-placed-before.false) before)
      ]
    ]

pub returns : goal.returns
returns g c = λ board holds marks.
    let s = setting c.args.setup.now in
    let all : c.loop-before.before ≡ s.customers = omega (arith, c.loop-before-test.false, c.customers-before-end.ensures.value, c.loop-before.auto.before-end) in
    subst (λ (n : ℕ). Grows s board c.args.session (unassigned_spots n board.routes) c.args.rows.now.items c.loop-before.rows.items) all
    (c.loop-before.invariant board holds marks)
