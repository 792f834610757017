use Rattle.std.proofs.Common.{◌≡◌, ◌∙◌, ◌∷◌, ◌+◌, ◌-◌, ◌≤◌, ℕ, List, ap, sym, subst, drop, drop-cons, add-one}
use Rattle.std.specs.Prelude.{All}
use Rattle.dimension_core.specs.Feasible.{FitsIn}
use Rattle.dimension_core.specs.Setup.{setting}
use Rattle.plan_core.specs.Plan.{changes_of}
use Rattle.denial_facts.specs.Excesses.{IsExcess}
use Rattle.denial_facts.proofs.Rest.{rest_all, rest_here, rest_known, rest_next}
use Rattle.denial_facts.proofs.excess.first_out.Goals as goal

pub loop-k-preserved-then-named-vehicle : goal.loop-k-preserved-then-named-vehicle
loop-k-preserved-then-named-vehicle g c =
    let s = setting c.args.setup.now in
    let item = c.index-changes-k in
    let i = c.loop-k.k in
    let next : drop i c.args.changes.now ≡ item.result ∷ drop (i + 1) c.args.changes.now =
    rw add-one (drop-cons c.args.changes.now i item.result c.loop-k-test.true ∙ ap (λ x. x ∷ drop (Prim.Native.Nat.suc i) c.args.changes.now) (sym item.is)) in
    rest_next s (changes_of c.args.changes.now) (changes_of (drop i c.args.changes.now)) (changes_of (drop (i + 1) c.args.changes.now)) c.args.vehicle c.args.dimension
    (item.result.0, item.result.1.value) c.loop-k.invariant (ap (λ xs. changes_of xs) next) (λ e. absurd (c.if-named-vehicle.true (sym e)))

pub loop-k-preserved : goal.loop-k-preserved
loop-k-preserved g c =
    let s = setting c.args.setup.now in
    let item = c.index-changes-k in
    let i = c.loop-k.k in
    let next : drop i c.args.changes.now ≡ item.result ∷ drop (i + 1) c.args.changes.now =
    rw add-one (drop-cons c.args.changes.now i item.result c.loop-k-test.true ∙ ap (λ x. x ∷ drop (Prim.Native.Nat.suc i) c.args.changes.now) (sym item.is)) in
    rest_next s (changes_of c.args.changes.now) (changes_of (drop i c.args.changes.now)) (changes_of (drop (i + 1) c.args.changes.now)) c.args.vehicle c.args.dimension
    (item.result.0, item.result.1.value) c.loop-k.invariant (ap (λ xs. changes_of xs) next)
    (λ e. subst (λ (r : List ℕ). FitsIn s (c.args.dimension - 1) c.args.vehicle r) (c.customers.ensures ∙ c.deref.ensures) c.in_default.ensures)

pub loop-k-init : goal.loop-k-init
loop-k-init g c = rest_all (setting c.args.setup.now) (changes_of c.args.changes.now) c.args.vehicle c.args.dimension c.requires.known

pub excess_of-requires-clause-low : goal.excess_of-requires-clause-low
excess_of-requires-clause-low g c =
    let s = setting c.args.setup.now in
    let item = c.index-changes-k in
    let i = c.loop-k.k in
    let next : drop i c.args.changes.now ≡ item.result ∷ drop (i + 1) c.args.changes.now =
    rw add-one (drop-cons c.args.changes.now i item.result c.loop-k-test.true ∙ ap (λ x. x ∷ drop (Prim.Native.Nat.suc i) c.args.changes.now) (sym item.is)) in
    subst (λ (n : ℕ). 1 ≤ n) c.if-named-vehicle.false (rest_known s (changes_of c.args.changes.now) (changes_of (drop i c.args.changes.now)) (changes_of (drop (i + 1) c.args.changes.now)) c.args.vehicle c.args.dimension
    (item.result.0, item.result.1.value) c.loop-k.invariant (ap (λ xs. changes_of xs) next)).0

pub excess_of-requires-clause-high : goal.excess_of-requires-clause-high
excess_of-requires-clause-high g c =
    let s = setting c.args.setup.now in
    let item = c.index-changes-k in
    let i = c.loop-k.k in
    let next : drop i c.args.changes.now ≡ item.result ∷ drop (i + 1) c.args.changes.now =
    rw add-one (drop-cons c.args.changes.now i item.result c.loop-k-test.true ∙ ap (λ x. x ∷ drop (Prim.Native.Nat.suc i) c.args.changes.now) (sym item.is)) in
    subst (λ (n : ℕ). n ≤ s.vehicles) c.if-named-vehicle.false (rest_known s (changes_of c.args.changes.now) (changes_of (drop i c.args.changes.now)) (changes_of (drop (i + 1) c.args.changes.now)) c.args.vehicle c.args.dimension
    (item.result.0, item.result.1.value) c.loop-k.invariant (ap (λ xs. changes_of xs) next)).1

pub excess_of-requires-clause-known : goal.excess_of-requires-clause-known
excess_of-requires-clause-known g c =
    let s = setting c.args.setup.now in
    let item = c.index-changes-k in
    let i = c.loop-k.k in
    let next : drop i c.args.changes.now ≡ item.result ∷ drop (i + 1) c.args.changes.now =
    rw add-one (drop-cons c.args.changes.now i item.result c.loop-k-test.true ∙ ap (λ x. x ∷ drop (Prim.Native.Nat.suc i) c.args.changes.now) (sym item.is)) in
    subst (λ (l : List ℕ). All (λ (n : ℕ). n ≤ s.customers) l) (sym (c.customers.ensures ∙ c.deref.ensures)) (rest_known s (changes_of c.args.changes.now) (changes_of (drop i c.args.changes.now)) (changes_of (drop (i + 1) c.args.changes.now)) c.args.vehicle c.args.dimension
    (item.result.0, item.result.1.value) c.loop-k.invariant (ap (λ xs. changes_of xs) next)).2

pub returns-in-Some : goal.returns-in-Some
returns-in-Some g c =
    let s = setting c.args.setup.now in
    let item = c.index-changes-k in
    let i = c.loop-k.k in
    let next : drop i c.args.changes.now ≡ item.result ∷ drop (i + 1) c.args.changes.now =
    rw add-one (drop-cons c.args.changes.now i item.result c.loop-k-test.true ∙ ap (λ x. x ∷ drop (Prim.Native.Nat.suc i) c.args.changes.now) (sym item.is)) in (
      item.result.1.value,
      rest_here s (changes_of c.args.changes.now) (changes_of (drop i c.args.changes.now)) (changes_of (drop (i + 1) c.args.changes.now)) c.args.vehicle c.args.dimension
          (item.result.0, item.result.1.value) c.loop-k.invariant (ap (λ xs. changes_of xs) next) c.if-named-vehicle.false,
      subst (λ (l : List ℕ). IsExcess s c.args.vehicle l c.args.dimension c.in-Some.excess) (c.customers.ensures ∙ c.deref.ensures) c.in-Some.ensures,
    )
