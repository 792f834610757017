use Rattle.std.proofs.Common.{◌≡◌, ◌<◌, ◌≤◌, ◌+◌, ◌-◌, ◌^◌, ◌∙◌, ◌∷◌, ℕ, length, arith, ap, subst}
use Rattle.gathered_ways.specs.Sums.{AddsSums}
use Rattle.gathered_ways.proofs.WaySums.{first_way, next_way, steps_by, adds_more, adds_none}
use Rattle.gathered_ways.proofs.sums.add_sums.Goals as goal

pub loop-k-init : goal.loop-k-init
loop-k-init c =
    let S = c.args.stops.now in
    let whole = c.requires.depot.1 in
    let sized : length S ≡ length (0 ∷ c.requires.depot.0) = ap length whole in
    let long = c.requires.long in
    record {
      sums = λ t all. adds_none c.args.turned t S c.args.sums.now.items c.push.new.self.items c.in_ok-push.ensures.items;
      next = λ t all more. first_way c.args.turned t S c.requires.depot.0 whole (omega arith);
      bound = omega arith;
    }

pub loop-k-preserved : goal.loop-k-preserved
loop-k-preserved c =
    let S = c.args.stops.now in
    let k = c.loop-k.k in
    let sum = c.loop-k.sum in
    let whole = c.requires.depot.1 in
    let sized : length S ≡ length (0 ∷ c.requires.depot.0) = ap length whole in
    let test = c.loop-k-test.true in
    let low = c.loop-k.auto.k in
    let bound = c.loop-k.invariant.bound in
    let value : c.from-sum.result ≡ c.step.result = cc in
    let small = c.step.ensures.small in
    let short = c.requires.short in
    let there : k + 1 < length S = omega arith in
    let inside : k < length c.requires.depot.0 = omega arith in
    let few : sum ≤ 2 ^ 42 = omega arith in
    record {
      sums = λ t all. adds_more c.args.turned t S c.args.sums.now.items c.loop-k.sums.items c.push-in-loop-k.new.self.items k sum (c.loop-k.invariant.sums t all) c.in_ok-push-2.ensures.items
          (c.loop-k.invariant.next t all there) few;
      next = λ t all more. next_way c.args.turned t S c.requires.depot.0 k sum c.from-sum.result whole inside (c.loop-k.invariant.next t all there)
          (value ∙ c.step.ensures.value ∙ steps_by c.args.turned t S c.args.cells.now k all low (omega arith));
      bound = omega arith;
    }

pub returns : goal.returns
returns c = λ t all.
    let long = c.requires.long in
    let end = c.loop-k-test.false in
    let high = c.loop-k.auto.k-end in
    let e : c.loop-k.k ≡ length c.args.stops.now - 1 = omega arith in
    subst (λ (n : ℕ). AddsSums c.args.turned t c.args.stops.now n c.args.sums.now.items c.loop-k.sums.items) e (c.loop-k.invariant.sums t all)
