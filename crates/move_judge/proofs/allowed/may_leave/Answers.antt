use Rattle.std.proofs.Common.{ℕ, ◌+◌, ◌-◌, arith, sym, subst, List}
use Rattle.std.proofs.lemmas.Bool.{false≢true}
use Rattle.dimension_core.specs.Setup.{setting}
use Rattle.plan_core.specs.Plan.{route_at}
use Rattle.pin_core.specs.View.{pins_of}
use Rattle.move_judge.specs.Allowed.{AreLoose}
use Rattle.move_judge.proofs.Allowing.{known_within, stretch_known, view_known}
use Rattle.move_judge.proofs.Places.{below_sum, end_within, stretch_fits, stretch_of_old}
use Rattle.move_judge.proofs.allowed.may_leave.Goals as goal

pub first_free-requires : goal.first_free-requires
first_free-requires g c = record { view = c.requires.view; v = c.requires.v }

pub customers-requires : goal.customers-requires
customers-requires g c = record { low = c.requires.v.0; high = c.requires.v.1 }

pub overflow_add-place : goal.overflow_add-place
overflow_add-place g c = stretch_fits (c.args.place + c.args.count) _ _ c.requires.high (c.laws_below.ensures.known.short _ _ c.args.v c.requires.view.plan) c.args.setup.now.sound.few_customers

pub part-requires : goal.part-requires
part-requires g c = record { low = c.requires.low; order = below_sum _ _; high = end_within _ _ _ c.customers.ensures c.requires.high }

pub returns-then-place-first_free : goal.returns-then-place-first_free
returns-then-place-first_free g c =
    (λ never. absurd (false≢true never), λ a. let front = a.0 in let begin = c.first_free.ensures.value in let test = c.if-place-first_free.true in absurd (omega arith))

pub returns : goal.returns
returns g c =
    let begin = c.first_free.ensures.value in
    let test = c.if-place-first_free.false in
    let same = stretch_of_old c.args.place c.args.count _ _ _ c.part.ensures c.customers.ensures in (
      λ is. (omega arith, subst (λ (xs : List ℕ). AreLoose (pins_of c.args.view.now) xs) same (c.are_loose.ensures.0 is)),
      λ a. c.are_loose.ensures.1 (subst (λ (xs : List ℕ). AreLoose (pins_of c.args.view.now) xs) (sym same) a.1),
    )

pub are_loose-requires : goal.are_loose-requires
are_loose-requires g c =
    let law = c.laws_below.ensures in
    let s = setting c.args.setup.now in
    record {
      laws = law;
      known = known_within law _ _ _ (sym c.requires.view.pinned)
          (stretch_known law s.customers (route_at c.args.view.now.routes c.args.v) c.part.result.now (c.args.place - 1) c.args.count
          (view_known law s c.args.view.now c.args.v c.requires.view c.requires.v.0 c.requires.v.1)
          (stretch_of_old c.args.place c.args.count _ _ _ c.part.ensures c.customers.ensures));
    }
