-- That a cache is that of some routes has at most one proof, so that a ghost field can state it.
use Rattle.std.proofs.Props.{props}
use Rattle.std.specs.Prelude.{ℕ, List}
use Rattle.dimension_core.specs.Setting.{Setting}
use Rattle.range_cache.specs.Cache.{RowState, CacheState, IsRowOf, IsCacheOf}

IsRowOf-prop : (s : Setting) (vehicle : ℕ) (route : List ℕ) (row : RowState) → IsProp (IsRowOf s vehicle route row)
IsRowOf-prop s vehicle route row = hlevel props

pub IsCacheOf-prop : (s : Setting) (routes : List (List ℕ)) (cache : CacheState) → IsProp (IsCacheOf s routes cache)
IsCacheOf-prop s routes cache = hlevel props
