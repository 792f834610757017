use Rattle.std.proofs.Common.{◌≡◌, ℕ, ◌+◌, ◌-◌, ◌*◌, ◌/◌, ◌%◌, ◌≤◌, ap, ap₂, ◌∙◌, arith}
use Rattle.permission_core.specs.Objects.{without_range}
use Rattle.permission_core.specs.ObjectLaws.{without_range-none}
use Rattle.permission_core.proofs.RangeLaws.{without_range-on}
use Rattle.permission_core.proofs.objects.ObjectSet.remove_range.Goals as goal

pub loop-from-init : goal.loop-from-init
loop-from-init c = (omega arith, c.requires.order, without_range-none c.args.self.now c.args.first)

pub loop-from-preserved : goal.loop-from-preserved
loop-from-preserved c =
    let from = c.loop-from.from in
    let place = from / 64 in
    let high = c.min-high.result in
    let n = high - from % 64 in
    let to = 64 * place + high in
    let most : high ≤ c.args.end - 64 * place = omega (arith, c.min-high.ensures) in
    let more : from % 64 ≤ high = omega (arith, c.min-high.ensures, c.loop-from-test.true) in (
      omega (arith, more, c.loop-from.invariant.0),
      omega (arith, most, c.loop-from-test.true),
      c.remove_in.ensures ∙ ap (λ s. without_range s (64 * place + from % 64) n) c.loop-from.invariant.2
          ∙ without_range-on c.args.self.now c.args.first from (64 * place + from % 64) n to c.loop-from.invariant.0 (omega arith) (omega (arith, more)),
    )
