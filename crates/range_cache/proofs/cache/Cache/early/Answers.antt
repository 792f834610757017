use Rattle.std.proofs.Common.{◌≡◌, ◌<◌, ◌-◌, ◌∙◌, ap, arith, length}
use Rattle.std.proofs.lemmas.List.{get_or_default}
use Rattle.range_cache.specs.Cache.{RowState, CacheState, no_row, row_at, range_at}
use Rattle.range_cache.proofs.Caches.{early_at}
use Rattle.range_cache.proofs.cache.Cache.early.Goals as goal

pub returns : goal.returns
returns c = λ s routes has.
    let low = has.first_vehicle in
    let high = has.last_vehicle in
    let sized : length c.self.inside.rows.items ≡ s.vehicles = ap (λ (x : CacheState). length x.rows) c.self.view_is ∙ has.kept.sized in
    let within : c.args.vehicle - 1 < length c.self.inside.rows.items = omega arith in
    let row : c.index.result.now ≡ row_at c.args.self.now c.args.vehicle =
    c.index.ensures ∙ get_or_default c.self.inside.rows.items (c.args.vehicle - 1) _ no_row within ∙ ap (λ (x : CacheState). row_at x c.args.vehicle) c.self.view_is in
    early_at c.spans_go_on.ensures s routes c.args.self.now c.args.dimension c.args.vehicle c.args.place _ has
    (c.early.ensures ∙ ap (λ (r : RowState). (range_at r (c.args.dimension - 1) (c.args.place - 1)).lo) row)
