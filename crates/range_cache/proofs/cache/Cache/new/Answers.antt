use Rattle.std.proofs.Common.{◌≡◌, ◌∙◌, ℕ, ap, [], replicate}
use Rattle.dimension_core.specs.Setup.{setting}
use Rattle.range_cache.specs.Cache.{no_row}
use Rattle.range_cache.proofs.Caches.{cache_new}
use Rattle.range_cache.proofs.Opening.{few_fit, all_counted, not_opened, one_more}
use Rattle.range_cache.proofs.cache.Cache.new.Goals as goal

pub overflow_cast-vehicles : goal.overflow_cast-vehicles
overflow_cast-vehicles g c = few_fit _ _ c.vehicles.ensures.value c.vehicles.ensures.sound.few_vehicles

pub returns-in_err-rows : goal.returns-in_err-rows
returns-in_err-rows g c = not_opened (setting c.args.setup.now) (replicate (setting c.args.setup.now).vehicles []) c.from_residual.result _ c.from_residual.ensures.1

pub loop-init : goal.loop-init
loop-init g c = c.in_ok-rows.ensures.items

pub returns-in_err-push : goal.returns-in_err-push
returns-in_err-push g c = not_opened (setting c.args.setup.now) (replicate (setting c.args.setup.now).vehicles []) c.from_residual-in_err-push.result _ c.from_residual-in_err-push.ensures.1

pub loop-preserved : goal.loop-preserved
loop-preserved g c = one_more _ _ _ _ c.loop.invariant c.empty.ensures c.in_ok-push.ensures.items

pub returns : goal.returns
returns g c =
    let counted : c.loop.counter ≡ (setting c.args.setup.now).vehicles = all_counted _ _ _ c.vehicles-end.ensures.value c.loop-test.false c.loop.auto.counter-end in
    cache_new (setting c.args.setup.now) _ (c.loop.invariant ∙ ap (λ (n : ℕ). replicate n no_row) counted)
