use Rattle.std.proofs.Common.{◌≡◌, ◌+◌, ◌-◌, ℕ, inl, inr, refl, arith, ap, subst, below_more, List, length, slice_index, take, drop}
use Rattle.std.proofs.lemmas.Bool.{cases_lt}
use Rattle.dimension_core.specs.Setup.{setting}
use Rattle.plan_core.specs.Plan.{route_at}
use Rattle.pin_core.specs.View.{pins_of}
use Rattle.move_judge.specs.Allowed.{AreLoose}
use Rattle.move_judge.proofs.Allowing.{loose_one, loose_within, not_loose_within, standing_known}
use Rattle.move_judge.proofs.Places.{none_below, none_less, no_more, nearer_end, index_fits, few_fit, at_before}
use Rattle.move_judge.proofs.allowed.loose_from.Goals as goal

pub first_free-requires : goal.first_free-requires
first_free-requires g c = record { view = c.requires.view; v = c.requires.v }

pub customers-route-requires : goal.customers-route-requires
customers-route-requires g c = record { low = c.requires.v.0; high = c.requires.v.1 }

pub loop-k-init : goal.loop-k-init
loop-k-init g c = λ i h. absurd (none_less i h)

pub loop-k-smaller : goal.loop-k-smaller
loop-k-smaller g c = nearer_end 3 c.loop-k.k c.loop-k-test.true

pub overflow_sub-index : goal.overflow_sub-index
overflow_sub-index g c = c.requires.low

pub overflow_add-index : goal.overflow_add-index
overflow_add-index g c = index_fits c.args.place c.loop-k.k c.ranges.place c.loop-k-test.true

pub overflow_cast-result : goal.overflow_cast-result
overflow_cast-result g c = few_fit c.loop-k.k c.loop-k-test.true

pub overflow_cast-result-then-is_pinned : goal.overflow_cast-result-then-is_pinned
overflow_cast-result-then-is_pinned g c = few_fit c.loop-k.k c.loop-k-test.true

pub bounds-route-index : goal.bounds-route-index
bounds-route-index g c = c.if-index-route.false

pub is_pinned-requires : goal.is_pinned-requires
is_pinned-requires g c =
    let known = standing_known c.laws_below.ensures (setting c.args.setup.now) c.args.view.now c.args.v (c.args.place - 1 + c.loop-k.k) _ c.requires.view c.requires.v.0 c.requires.v.1 c.customers-route.ensures c.if-index-route.false in
    record { low = known.0; high = known.1 }

pub loop-k-preserved : goal.loop-k-preserved
loop-k-preserved g c =
    let test = c.if-index-route.false in
    below_more _ _ c.loop-k.invariant (omega arith, loose_one c.laws_below.ensures (pins_of c.args.view.now) _ _ c.is_pinned.ensures c.if-is_pinned.false)

pub returns-then-place-first_free-clause-most : goal.returns-then-place-first_free-clause-most
returns-then-place-first_free-clause-most g c =
    let begin = c.first_free.ensures.value in
    let test = c.if-place-first_free.true in
    λ n few fits both. let front = both.0 in absurd (omega arith)

pub returns-then-index-route-clause-loose : goal.returns-then-index-route-clause-loose
returns-then-index-route-clause-loose g c = λ some.
    let low = c.requires.low in
    let begin = c.first_free.ensures.value in
    let test = c.if-place-first_free.false in
    let same : length c.customers-route.result.now ≡ length (route_at c.args.view.now.routes c.args.v) = ap length c.customers-route.ensures in
    let last = (c.loop-k.invariant (c.loop-k.k - 1) (omega arith)).0 in
    let loose = loose_within c.laws_below.ensures (pins_of c.args.view.now) c.customers-route.result.now (c.args.place - 1) c.loop-k.k (omega arith) (λ i h. (c.loop-k.invariant i h).1) in
    (omega arith, (omega arith, subst (λ (r : List ℕ). AreLoose (pins_of c.args.view.now) (take c.loop-k.k (drop (c.args.place - 1) r))) c.customers-route.ensures loose))

pub returns-then-index-route-clause-most : goal.returns-then-index-route-clause-most
returns-then-index-route-clause-most g c =
    let test = c.if-index-route.true in
    let same : length c.customers-route.result.now ≡ length (route_at c.args.view.now.routes c.args.v) = ap length c.customers-route.ensures in
    λ n few fits both. omega arith

pub returns-then-is_pinned-clause-loose : goal.returns-then-is_pinned-clause-loose
returns-then-is_pinned-clause-loose g c = λ some.
    let low = c.requires.low in
    let begin = c.first_free.ensures.value in
    let test = c.if-place-first_free.false in
    let same : length c.customers-route.result.now ≡ length (route_at c.args.view.now.routes c.args.v) = ap length c.customers-route.ensures in
    let last = (c.loop-k.invariant (c.loop-k.k - 1) (omega arith)).0 in
    let loose = loose_within c.laws_below.ensures (pins_of c.args.view.now) c.customers-route.result.now (c.args.place - 1) c.loop-k.k (omega arith) (λ i h. (c.loop-k.invariant i h).1) in
    (omega arith, (omega arith, subst (λ (r : List ℕ). AreLoose (pins_of c.args.view.now) (take c.loop-k.k (drop (c.args.place - 1) r))) c.customers-route.ensures loose))

pub returns-then-is_pinned-clause-most : goal.returns-then-is_pinned-clause-most
returns-then-is_pinned-clause-most g c =
    let r = route_at c.args.view.now.routes c.args.v in
    let test = c.if-index-route.false in
    let same : length c.customers-route.result.now ≡ length r = ap length c.customers-route.ensures in
    λ n few fits both. elim (cases_lt c.loop-k.k n) [
      | inl more ↦
          absurd (not_loose_within c.laws_below.ensures (pins_of c.args.view.now) r (c.args.place - 1) c.loop-k.k n _ _ more (omega arith)
          (ap (λ (xs : List ℕ). slice_index xs (c.args.place - 1 + c.loop-k.k)) c.customers-route.ensures) c.is_pinned.ensures c.if-is_pinned.true both.1)
      | inr less ↦ omega arith
    ]

pub returns-clause-loose : goal.returns-clause-loose
returns-clause-loose g c = λ some.
    let low = c.requires.low in
    let begin = c.first_free.ensures.value in
    let test = c.if-place-first_free.false in
    let end = c.loop-k-test.false in
    let same : length c.customers-route.result.now ≡ length (route_at c.args.view.now.routes c.args.v) = ap length c.customers-route.ensures in
    let last = (c.loop-k.invariant 2 (omega arith)).0 in
    let loose = loose_within c.laws_below.ensures (pins_of c.args.view.now) c.customers-route.result.now (c.args.place - 1) 3 (omega arith) (λ i h. (c.loop-k.invariant i (omega arith)).1) in
    (omega arith, (omega arith, subst (λ (r : List ℕ). AreLoose (pins_of c.args.view.now) (take 3 (drop (c.args.place - 1) r))) c.customers-route.ensures loose))

pub returns-then-index-route-clause-few : goal.returns-then-index-route-clause-few
returns-then-index-route-clause-few g c = at_before c.loop-k.k 3 c.loop-k-test.true

pub returns-then-is_pinned-clause-few : goal.returns-then-is_pinned-clause-few
returns-then-is_pinned-clause-few g c = at_before c.loop-k.k 3 c.loop-k-test.true

pub returns-clause-most : goal.returns-clause-most
returns-clause-most g c = λ n few fits both. few

pub returns-then-place-first_free-clause-loose : goal.returns-then-place-first_free-clause-loose
returns-then-place-first_free-clause-loose g c = λ some. absurd (none_less 0 some)

pub returns-then-place-first_free-clause-few : goal.returns-then-place-first_free-clause-few
returns-then-place-first_free-clause-few g c = none_below 3

pub returns-clause-few : goal.returns-clause-few
returns-clause-few g c = no_more 3 3 refl
