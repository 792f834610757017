use Rattle.std.proofs.Common.{◌≡◌, ◌∙◌, ℕ, ◌<◌, ◌≤◌, ◌⊎◌, inl, inr, refl, sym, subst, arith, length, List, None, drop, slice_index}
use Rattle.std.proofs.lemmas.Bool.{cases_lt}
use Rattle.dimension_core.specs.Setup.{setting}
use Rattle.pin_core.specs.Pins.{front_of, pin_of}
use Rattle.pin_core.specs.View.{pins_of}
use Rattle.move_judge.specs.Allowed.{AreLoose}
use Rattle.move_judge.proofs.Allowing.{loose_behind, loose_one, not_loose_from, short_of, standing_known}
use Rattle.move_judge.proofs.Places.{at_most_as, no_more, none_less, less_as, nearer_end, counted_fits, count_fits}
use Rattle.move_judge.proofs.allowed.must_keep.Goals.{then-is_pinned, else-is_pinned}
use Rattle.move_judge.proofs.allowed.must_keep.Goals as goal

pub customers-route-requires : goal.customers-route-requires
customers-route-requires g c = record { low = c.requires.v.0; high = c.requires.v.1 }

pub front-keep-requires : goal.front-keep-requires
front-keep-requires g c = record { low = c.requires.v.0; high = at_most_as _ _ _ (c.requires.view.vehicles ∙ sym c.requires.view.frozen) c.requires.v.1 }

pub overflow_cast-place-end : goal.overflow_cast-place-end
overflow_cast-place-end g c = count_fits _ (short_of c.laws_below.ensures (setting c.args.setup.now) c.args.view.now c.args.v _ c.requires.view c.customers-customers.ensures.sound.few_customers c.customers-route.ensures)

pub loop-place-init : goal.loop-place-init
loop-place-init g c = record {
  high = rw (c.front-keep.ensures, c.customers-route.ensures) (c.requires.view.fitting c.args.v c.requires.v.0 c.requires.v.1);
  front = no_more _ _ c.front-keep.ensures;
  rest = λ i h l. absurd (none_less i h);
  held = λ k h. inl (less_as k _ _ c.front-keep.ensures h);
}

pub bounds-route-place : goal.bounds-route-place
bounds-route-place g c = c.loop-place-test.true

pub is_pinned-requires : goal.is_pinned-requires
is_pinned-requires g c =
    let known = standing_known c.laws_below.ensures (setting c.args.setup.now) c.args.view.now c.args.v c.loop-place.place _ c.requires.view c.requires.v.0 c.requires.v.1 c.customers-route.ensures c.loop-place-test.true in
    record { low = known.0; high = known.1 }

pub overflow_add-place : goal.overflow_add-place
overflow_add-place g c = counted_fits _ _ c.loop-place-test.true (short_of c.laws_below.ensures (setting c.args.setup.now) c.args.view.now c.args.v _ c.requires.view c.customers-customers.ensures.sound.few_customers c.customers-route.ensures)

pub loop-place-smaller : goal.loop-place-smaller
loop-place-smaller g c = nearer_end _ _ c.loop-place-test.true

pub loop-place-preserved : goal.loop-place-preserved
loop-place-preserved g c =
    let so_far = c.loop-place.invariant in
    let test = c.loop-place-test.true in
    elim c.if-is_pinned.branch [
      | then-is_pinned w ↦
          let most = w.max-keep.ensures in
          let is = w.keep-is in
          let old = so_far.high in
          let front = so_far.front in
          record {
            high = omega arith;
            front = omega arith;
            rest = λ i h l. absurd {A = pin_of (pins_of c.args.view.now) (slice_index c.customers-route.result.now i) ≡ None} (omega arith);
            held = λ k h. elim (cases_lt k c.loop-place.keep) [
              | inl low ↦ so_far.held k low
              | inr high ↦
                  inr (not_loose_from c.laws_below.ensures (pins_of c.args.view.now) c.customers-route.result.now c.loop-place.place k _ _ (omega arith) test refl c.is_pinned.ensures w.if-is_pinned.true)
            ];
          }
      | else-is_pinned w ↦
          let is = w.keep-is in
          let old = so_far.high in
          let front = so_far.front in
          let here = loose_one c.laws_below.ensures (pins_of c.args.view.now) (slice_index c.customers-route.result.now c.loop-place.place) _ c.is_pinned.ensures w.if-is_pinned.false in
          record {
            high = omega arith;
            front = omega arith;
            rest = λ i h l. elim (cases_lt i c.loop-place.place) [
              | inl less ↦ so_far.rest i less (omega arith)
              | inr more ↦
                  let same : c.loop-place.place ≡ i = omega arith in
                  subst (λ (n : ℕ). pin_of (pins_of c.args.view.now) (slice_index c.customers-route.result.now n) ≡ None) same here
            ];
            held = λ k h. so_far.held k (omega arith);
          }
    ]

pub returns-clause-enough : goal.returns-clause-enough
returns-clause-enough g c =
    let end = c.loop-place-test.false in (
      c.loop-place.invariant.front,
      subst (λ (r : List ℕ). AreLoose (pins_of c.args.view.now) (drop c.loop-place.keep r)) c.customers-route.ensures
          (loose_behind c.laws_below.ensures (pins_of c.args.view.now) c.customers-route.result.now c.loop-place.keep
          (λ i h l. c.loop-place.invariant.rest i (omega arith) l)),
    )

pub returns-clause-held : goal.returns-clause-held
returns-clause-held g c =
    subst (λ (r : List ℕ). (k : ℕ) → k < c.loop-place.keep → (k < front_of (pins_of c.args.view.now) c.args.v) ⊎ ¬ AreLoose (pins_of c.args.view.now) (drop k r))
    c.customers-route.ensures c.loop-place.invariant.held

pub returns-clause-high : goal.returns-clause-high
returns-clause-high g c = subst (λ (r : List ℕ). c.loop-place.keep ≤ length r) c.customers-route.ensures c.loop-place.invariant.high
