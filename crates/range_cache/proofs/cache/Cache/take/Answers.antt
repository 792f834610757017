use Rattle.std.proofs.Common.{◌≡◌, ◌∙◌, ◌∷◌, ◌+◌, ◌<◌, ap, sym, arith, List, length, drop, drop-cons, add-one}
use Rattle.std.proofs.lemmas.List.{length-set, drop-set-lt, drop_all}
use Rattle.range_cache.specs.Cache.{RowState, CacheState}
use Rattle.range_cache.specs.Pending.{with_rows}
use Rattle.range_cache.proofs.Caches.{taking_first, taking_within, taking_low, taking_next, taking_last, taken_cache}
use Rattle.range_cache.proofs.cache.Cache.take.Goals as goal

pub loop-k-init : goal.loop-k-init
loop-k-init c = record {
  sized = ap length c.into_rows-rows.ensures.rows;
  taking = taking_first c.args.pending.rows _ c.args.self.now.rows c.args.pending.of _ c.into_rows-rows.ensures.rows
      (ap (λ (x : CacheState). x.rows) c.self.view_is) c.into_rows-rows.ensures.within c.requires;
}

pub index_mut-requires : goal.index_mut-requires
index_mut-requires c = omega (arith, c.loop-k-test.true, c.len-k-end.ensures, c.loop-k.rows.ok, c.into_rows-rows.result.ok, c.loop-k.invariant.sized, ap length c.into_rows-rows.ensures.rows)

pub overflow_sub-vehicle : goal.overflow_sub-vehicle
overflow_sub-vehicle c =
    let at = c.loop-k.k in
    let below : at < length c.loop-k.rows.items = omega (arith, c.loop-k-test.true, c.len-k-end.ensures, c.into_rows-rows.result.ok, c.loop-k.invariant.sized, ap length c.into_rows-rows.ensures.rows) in
    let next : drop at c.loop-k.rows.items ≡ c.index_mut.result.now ∷ drop (at + 1) c.loop-k.rows.items =
    rw add-one (drop-cons c.loop-k.rows.items at c.index_mut.result.now below ∙ ap (λ x. x ∷ drop (Prim.Native.Nat.suc at) c.loop-k.rows.items) (sym c.index_mut.ensures.value)) in
    taking_low _ _ _ _ c.index_mut.result.now.0 c.index_mut.result.now.1 c.loop-k.invariant.taking next

pub index_mut-requires-in-loop-k : goal.index_mut-requires-in-loop-k
index_mut-requires-in-loop-k c =
    let at = c.loop-k.k in
    let below : at < length c.loop-k.rows.items = omega (arith, c.loop-k-test.true, c.len-k-end.ensures, c.into_rows-rows.result.ok, c.loop-k.invariant.sized, ap length c.into_rows-rows.ensures.rows) in
    let next : drop at c.loop-k.rows.items ≡ c.index_mut.result.now ∷ drop (at + 1) c.loop-k.rows.items =
    rw add-one (drop-cons c.loop-k.rows.items at c.index_mut.result.now below ∙ ap (λ x. x ∷ drop (Prim.Native.Nat.suc at) c.loop-k.rows.items) (sym c.index_mut.ensures.value)) in
    omega (arith, taking_within _ _ _ _ c.index_mut.result.now.0 c.index_mut.result.now.1 c.loop-k.invariant.taking next, c.loop-k.self-inside.rows.ok)

pub loop-k-preserved : goal.loop-k-preserved
loop-k-preserved c =
    let at = c.loop-k.k in
    let below : at < length c.loop-k.rows.items = omega (arith, c.loop-k-test.true, c.len-k-end.ensures, c.into_rows-rows.result.ok, c.loop-k.invariant.sized, ap length c.into_rows-rows.ensures.rows) in
    let next : drop at c.loop-k.rows.items ≡ c.index_mut.result.now ∷ drop (at + 1) c.loop-k.rows.items =
    rw add-one (drop-cons c.loop-k.rows.items at c.index_mut.result.now below ∙ ap (λ x. x ∷ drop (Prim.Native.Nat.suc at) c.loop-k.rows.items) (sym c.index_mut.ensures.value)) in
    let taking = taking_next _ _ _ _ c.index_mut.result.now.0 c.index_mut.result.now.1 c.loop-k.invariant.taking next in
    record {
      sized = length-set c.loop-k.rows.items at (c.index_mut.result.now.0, c.swap.new.y) ∙ c.loop-k.invariant.sized;
      taking = rw (c.swap.ensures.x_after, drop-set-lt (at + 1) c.loop-k.rows.items at (c.index_mut.result.now.0, c.swap.new.y) (omega arith)) taking;
    }

pub returns-clause-rows : goal.returns-clause-rows
returns-clause-rows c =
    let none = drop_all c.loop-k.k c.loop-k.rows.items (omega (arith, c.loop-k-test.false, c.len-k-end.ensures, c.into_rows-rows.result.ok, c.loop-k.invariant.sized, ap length c.into_rows-rows.ensures.rows)) in
    let rows : c.loop-k.self-inside.rows.items ≡ with_rows c.args.pending.rows c.args.self.now.rows = taking_last _ _ _ c.loop-k.invariant.taking none in
    ap (λ (xs : List RowState). let x : CacheState = record { rows = xs } in x) rows

pub returns-clause-cache : goal.returns-clause-cache
returns-clause-cache c = λ s routes changes cache new.
    let none = drop_all c.loop-k.k c.loop-k.rows.items (omega (arith, c.loop-k-test.false, c.len-k-end.ensures, c.into_rows-rows.result.ok, c.loop-k.invariant.sized, ap length c.into_rows-rows.ensures.rows)) in
    taken_cache s routes changes c.args.pending.rows c.args.self.now _ (taking_last _ _ _ c.loop-k.invariant.taking none) cache new
