use Rattle.std.proofs.Common.{◌≡◌, ◌∙◌, ◌∷◌, ◌++◌, ◌+◌, ◌-◌, ◌<◌, ◌≤◌, ℕ, List, [], length, refl, ap, take, drop, drop-cons, add-one, subst, sym, arith, slice_index_or, Global}
use Rattle.std.specs.declared.sync.Arc.{Arc}
use Rattle.std.proofs.lemmas.List.{length-set, length-map, get_or-map, map-set, map_push, take_more_set, drop-set-lt}
use Rattle.plan_core.specs.Plan.{AreApart, route_at, routes_of, changes_of, former, with_routes, with_stamps}
use Rattle.plan_core.proofs.Exchange.{IsExchanging, exchanging_first, exchanging_step, gone_step, known_next, next_vehicle, exchanged, homes_exchanged, gone_all}
use Rattle.plan_core.proofs.replace.exchange_all.Goals as goal

pub loop-k-init : goal.loop-k-init
loop-k-init c =
    let apart : AreApart (length (routes_of c.args.routes.now)) (changes_of c.args.changes.now) =
    subst (λ (n : ℕ). AreApart n (changes_of c.args.changes.now)) (sym (length-map c.args.routes.now (λ r. r.value))) c.requires.apart in
    record {
      kept = exchanging_first (changes_of c.args.changes.now) (routes_of c.args.routes.now) c.args.version c.args.stamps.now c.args.homes.now apart c.requires.homes;
      gone = refl;
      sized = c.requires.stamps;
    }

pub settle-requires : goal.settle-requires
settle-requires c =
    let final = with_routes (changes_of c.args.changes.now) (routes_of c.args.routes.now) in
    let target = with_stamps (changes_of c.args.changes.now) c.args.version c.args.stamps.now in
    let at = c.loop-k.k in
    let change = slice_index_or c.loop-k.changes at c.index-changes-k.result in
    let next : drop at c.loop-k.changes ≡ change ∷ drop (at + 1) c.loop-k.changes =
    rw add-one (drop-cons c.loop-k.changes at c.index-changes-k.result (omega (arith, c.loop-k-test.true, c.loop-k.auto.changes))) in
    let kept = subst (λ (xs : List (ℕ × Arc (List ℕ) Global)). IsExchanging final target c.args.version (changes_of xs) (routes_of c.loop-k.routes) c.loop-k.stamps c.loop-k.homes)
    next c.loop-k.invariant.kept in
    rw (c.customers.ensures ∙ c.deref.ensures, c.loop-k.auto.homes)
    (known_next (length c.args.homes.now) final target c.args.version change.0 change.1.value _ _ _ _ c.requires.plan kept)

pub loop-k-preserved : goal.loop-k-preserved
loop-k-preserved c =
    let final = with_routes (changes_of c.args.changes.now) (routes_of c.args.routes.now) in
    let target = with_stamps (changes_of c.args.changes.now) c.args.version c.args.stamps.now in
    let at = c.loop-k.k in
    let change = slice_index_or c.loop-k.changes at c.index-changes-k.result in
    let next : drop at c.loop-k.changes ≡ change ∷ drop (at + 1) c.loop-k.changes =
    rw add-one (drop-cons c.loop-k.changes at c.index-changes-k.result (omega (arith, c.loop-k-test.true, c.loop-k.auto.changes))) in
    let kept = subst (λ (xs : List (ℕ × Arc (List ℕ) Global)). IsExchanging final target c.args.version (changes_of xs) (routes_of c.loop-k.routes) c.loop-k.stamps c.loop-k.homes)
    next c.loop-k.invariant.kept in
    let gone = subst (λ (xs : List (ℕ × Arc (List ℕ) Global)). changes_of (take at c.loop-k.changes) ++ former (routes_of c.loop-k.routes) (changes_of xs)
    ≡ former (routes_of c.args.routes.now) (changes_of c.args.changes.now)) next c.loop-k.invariant.gone in
    let says = c.settle.ensures in
    let after : ℕ × Arc (List ℕ) Global = (change.0, c.swap.new.y) in
    let high : change.0 ≤ length c.loop-k.routes = subst (λ (n : ℕ). change.0 ≤ n) (length-map c.loop-k.routes (λ r. r.value)) kept.apart.1 in
    let old : c.swap.new.y.value ≡ route_at (routes_of c.loop-k.routes) change.0 =
    ap (λ (r : Arc (List ℕ) Global). r.value) c.swap.ensures.y_after
    ∙ sym (get_or-map (λ (r : Arc (List ℕ) Global). r.value) c.loop-k.routes (change.0 - 1) c.index-routes-vehicle.result [] (omega (arith, kept.apart.0, high))) in
    let read : c.customers.result.now ≡ change.1.value = c.customers.ensures ∙ c.deref.ensures in
    record {
      kept = rw (
        c.swap.ensures.x_after,
        drop-set-lt (at + 1) c.loop-k.changes at (change.0, c.swap.new.y) (omega arith),
        map-set (λ (r : Arc (List ℕ) Global). r.value) c.loop-k.routes (change.0 - 1) change.1,
      )
          (exchanging_step (length c.args.homes.now) final target c.args.version change.0 change.1.value _ _ _ _ c.settle.new.homes c.requires.plan kept
          (rw read at says.settled) (rw read at says.others) says.known);
      gone = rw (
        c.swap.ensures.x_after,
        take_more_set c.loop-k.changes at after (omega (arith, c.loop-k-test.true, c.loop-k.auto.changes)),
        map_push {Y = ℕ × List ℕ} (λ (d : ℕ × Arc (List ℕ) Global). (d.0, d.1.value)) (take at c.loop-k.changes) after,
        drop-set-lt (at + 1) c.loop-k.changes at after (omega arith),
        map-set (λ (r : Arc (List ℕ) Global). r.value) c.loop-k.routes (change.0 - 1) change.1,
      )
          (gone_step (changes_of (take at c.loop-k.changes)) (changes_of (drop (at + 1) c.loop-k.changes)) (routes_of c.loop-k.routes) change.0 change.1.value
          c.swap.new.y.value _ kept.apart old gone);
      sized = length-set c.loop-k.stamps (change.0 - 1) c.args.version ∙ c.loop-k.invariant.sized
          ∙ sym (length-set c.loop-k.routes (change.0 - 1) c.swap.new.x);
    }

pub overflow_sub-vehicle : goal.overflow_sub-vehicle
overflow_sub-vehicle c =
    (next_vehicle _ _ _ c.index-changes-k.result _ _ _ _ _ _ c.loop-k-test.true c.loop-k.auto.changes c.loop-k.invariant.kept).0

pub bounds-routes-vehicle : goal.bounds-routes-vehicle
bounds-routes-vehicle c =
    (next_vehicle _ _ _ c.index-changes-k.result _ _ _ _ _ _ c.loop-k-test.true c.loop-k.auto.changes c.loop-k.invariant.kept).1

pub overflow_sub-stamps : goal.overflow_sub-stamps
overflow_sub-stamps c =
    (next_vehicle _ _ _ c.index-changes-k.result _ _ _ _ _ _ c.loop-k-test.true c.loop-k.auto.changes c.loop-k.invariant.kept).0

pub bounds-stamps-vehicle : goal.bounds-stamps-vehicle
bounds-stamps-vehicle c =
    subst (λ (n : ℕ). (slice_index_or c.loop-k.changes c.loop-k.k c.index-changes-k.result).0 - 1 < n) (sym c.loop-k.invariant.sized)
    (next_vehicle _ _ _ c.index-changes-k.result _ _ _ _ _ _ c.loop-k-test.true c.loop-k.auto.changes c.loop-k.invariant.kept).1

pub returns-clause-routes : goal.returns-clause-routes
returns-clause-routes c =
    (exchanged _ _ _ _ _ _ _ _ _ c.loop-k-test.false c.loop-k.auto.changes c.loop-k.invariant.kept).made

pub returns-clause-stamps : goal.returns-clause-stamps
returns-clause-stamps c =
    (exchanged _ _ _ _ _ _ _ _ _ c.loop-k-test.false c.loop-k.auto.changes c.loop-k.invariant.kept).stamped

pub returns-clause-homes : goal.returns-clause-homes
returns-clause-homes c =
    homes_exchanged _ _ _ _ _ _ (exchanged _ _ _ _ _ _ _ _ _ c.loop-k-test.false c.loop-k.auto.changes c.loop-k.invariant.kept)

pub returns-clause-former : goal.returns-clause-former
returns-clause-former c =
    gone_all _ _ _ _ _ c.loop-k-test.false c.loop-k.auto.changes c.loop-k.invariant.gone
