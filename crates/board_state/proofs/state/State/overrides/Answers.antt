use Rattle.std.proofs.Common.{rules, ◌≡◌, ◌+◌, ◌⊎◌, Bool, List, get_or, Some, None, true, sym, ap, subst, ◌∙◌, arith}
use Rattle.std.specs.Prelude.{slice_get, if◌then◌else◌}
use Rattle.std.proofs.lemmas.List.{drop_all}
use Rattle.std.proofs.lemmas.Option.{slice_get-get_or, slice_get_within}
use Rattle.plan_core.specs.declared.touch.Touch.{Touch}
use Rattle.plan_core.specs.Drafts.{drafts_of}
use Rattle.plan_core.specs.Plan.{with_routes}
use Rattle.pin_core.specs.Pins.{IsHeld}
use Rattle.permission_table.specs.Tables.{allows}
use Rattle.permission_core.specs.declared.objects.Operation.TheVariants as operations
use Rattle.permission_core.specs.declared.objects.Object.TheVariants as objects
use Rattle.board_state.specs.Work.{is_leaving, leaving}
use Rattle.board_state.proofs.WorkLaws.{within, both, both_within, just_idle}
use Rattle.board_state.proofs.Overrides.{answers_more, marks_more, leaving_left}
use Rattle.board_state.proofs.state.State.overrides.Goals as goal

pub loop-touch-preserved : goal.loop-touch-preserved
loop-touch-preserved c =
    let held = c.args.self.now in
    let touched = c.args.touched.now in
    let l = c.loop-touch in
    let others = with_routes (drafts_of held.plan.routes c.args.drafts.now) held.plan.routes in
    let d : Touch = record { vehicle = 0; place = 0; customer = 0 } in
    let left = leaving_left held.pins others touched l.touch-index d c.loop-touch-test.true in
    let so_far = l.invariant.work.2 in
    record {
      work = (
        l.invariant.work.0 + (if is_leaving held.pins others (get_or touched l.touch-index d).customer then 1 else 0),
        both _ _ _ _ _ _ _ _ _ _ _ l.invariant.work.1 c.may_leave-may.ensures.work,
        omega (arith, left, so_far),
      );
      sized = search rules;
      within = omega (arith, c.loop-touch-test.true);
      leave = λ k u there mark. marks_more (IsHeld held.pins others) touched l.free.items l.touch-index (get_or touched l.touch-index d) c.may_leave-may.result
          l.invariant.sized (slice_get-get_or touched l.touch-index d c.loop-touch-test.true) c.may_leave-may.ensures.leaves l.invariant.leave k u there
          (subst (λ (free : List Bool). slice_get free k ≡ Some true) c.in_ok-push.ensures.items mark);
      each = λ k u low there. subst (λ (free : List Bool). IsHeld held.pins others u.customer ⊎ (slice_get free k ≡ Some (allows held.tables c.args.session operations.Override (objects.Customer u.customer)))) (sym c.in_ok-push.ensures.items)
          (answers_more (IsHeld held.pins others) (λ x. allows held.tables c.args.session operations.Override (objects.Customer x)) touched l.free.items l.touch-index
          (get_or touched l.touch-index d) c.may_leave-may.result l.invariant.sized (slice_get-get_or touched l.touch-index d c.loop-touch-test.true)
          c.may_leave-may.ensures.may l.invariant.each k u low there);
    }

pub returns-clause-answers : goal.returns-clause-answers
returns-clause-answers c =
    let l = c.loop-touch in
    record {
      sized = omega (arith, l.invariant.sized, l.invariant.within, c.loop-touch-test.false);
      each = λ k t at. l.invariant.each k t (let in_list = slice_get_within _ k t at in omega (arith, l.invariant.within, c.loop-touch-test.false)) at;
    }

pub loop-touch-init : goal.loop-touch-init
loop-touch-init c = record {
  work = (0, just_idle _, omega arith);
  sized = search rules;
  within = omega arith;
  leave = λ k u there mark. absurd (let none : Some true ≡ None = sym mark ∙ ap (λ (free : List Bool). slice_get free k) c.new-free.ensures.items in cc);
  each = λ k u low there. absurd (omega (arith, low));
}

pub returns-clause-whole : goal.returns-clause-whole
returns-clause-whole c =
    let l = c.loop-touch in
    let none = ap (λ ts. leaving c.args.self.now.pins (with_routes (drafts_of c.args.self.now.plan.routes c.args.drafts.now) c.args.self.now.plan.routes) ts) (drop_all l.touch-index c.args.touched.now c.loop-touch-test.false) in
    let all = l.invariant.work.2 in
    within _ _ _ _ _ _ _ _ _ _ l.invariant.work.1 (omega arith) (omega arith) (omega (arith, none, all)) (omega (arith, none, all))

pub returns-clause-work : goal.returns-clause-work
returns-clause-work c =
    let l = c.loop-touch in
    let all = l.invariant.work.2 in
    within _ _ _ _ _ _ _ _ _ _ l.invariant.work.1 (omega arith) (omega arith) (omega arith) (omega (arith, all))

pub returns-in_err-push-clause-work : goal.returns-in_err-push-clause-work
returns-in_err-push-clause-work c =
    let held = c.args.self.now in
    let touched = c.args.touched.now in
    let l = c.loop-touch in
    let d : Touch = record { vehicle = 0; place = 0; customer = 0 } in
    let left = leaving_left held.pins (with_routes (drafts_of held.plan.routes c.args.drafts.now) held.plan.routes) touched l.touch-index d c.loop-touch-test.true in
    let all = l.invariant.work.2 in
    both_within _ _ _ _ _ _ _ _ _ _ _ _ _ _ _ l.invariant.work.1 c.may_leave-may.ensures.work (omega arith) (omega arith) (omega arith) (omega (arith, left, all))
