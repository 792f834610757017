use Rattle.std.proofs.Common.{arith, ap, length, subst, sym, ℕ, ◌≡◌, ◌∙◌, ◌++◌, List}
use Rattle.plan_sums.specs.declared.tour.Tour.{Tour}
use Rattle.plan_sums.specs.declared.visit.Visit.{Visit}
use Rattle.plan_sums.specs.Tours.{tour_at, tours_before}
use Rattle.plan_sums.proofs.Tallies.{tours_more}
use Rattle.plan_sums.proofs.tour.tours.Goals as goal

pub loop-k-preserved : goal.loop-k-preserved
loop-k-preserved c = record {
  tally = c.behind-tally.ensures;
  tours = c.in_ok-push_if_last.ensures.ok ∙ ap (λ (l : List Tour). l ++ tour_at c.args.roads.now c.args.rows.now c.loop-k.k) c.loop-k.invariant.tours ∙ sym (tours_more c.args.roads.now c.args.rows.now c.loop-k.k);
  few = omega (arith, c.in_ok-push_if_last.ensures.few, c.loop-k.invariant.few);
  small = c.in_ok-push_if_last.ensures.small c.loop-k.invariant.small;
}

pub behind-tally-requires-clause-way : goal.behind-tally-requires-clause-way
behind-tally-requires-clause-way c = ap (λ (v : Visit). v.way) c.visit_at.ensures.value

pub behind-tally-requires-clause-small : goal.behind-tally-requires-clause-small
behind-tally-requires-clause-small c = c.visit_at.ensures.sound.way

pub behind-tally-requires-clause-tally : goal.behind-tally-requires-clause-tally
behind-tally-requires-clause-tally c = c.loop-k.invariant.tally

pub push_if_last-requires-clause-tally : goal.push_if_last-requires-clause-tally
push_if_last-requires-clause-tally c = c.behind-tally.ensures

pub returns-clause-value : goal.returns-clause-value
returns-clause-value c =
    let e : c.loop-k.k ≡ length c.args.rows.now = omega arith in
    subst (λ (n : ℕ). c.loop-k.tours.items ≡ tours_before c.args.roads.now c.args.rows.now n) e c.loop-k.invariant.tours

pub returns-clause-few : goal.returns-clause-few
returns-clause-few c = omega (arith, c.loop-k.invariant.few, c.requires.few)

pub returns-clause-small : goal.returns-clause-small
returns-clause-small c = c.loop-k.invariant.small
