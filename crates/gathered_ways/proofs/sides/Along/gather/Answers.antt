use Rattle.std.proofs.lemmas.Result.{err_from_is_err_and}
use Rattle.std.proofs.Common.{◌≡◌, ◌≤◌, ◌∙◌, ℕ, false, List, length, All, arith, rules, subst, sym, vec_len, ◌*◌, ◌∷◌}
use Rattle.gathered_ways.specs.Sums.{AreBothSums}
use Rattle.way_costs.specs.Ways.{AreHopsFrom}
use Rattle.gathered_ways.proofs.WaySums.{behind_first, picked_edges, behind_fits}
use Rattle.gathered_ways.proofs.Rooms.{two_some}
use Rattle.gathered_ways.proofs.sides.Along.gather.Goals as goal

pub returns : goal.returns
returns c =
    let S = c.args.stops.now.items in
    let added = c.in_ok-add_edges.ensures in
    let long = c.requires.long in
    let known : vec_len c.args.stops.now ≡ length S = search rules in
    let behind = behind_first S added.0 c.deref-2.result.now c.len-count.result (c.deref-2.ensures.value ∙ added.1) (c.len-count.ensures ∙ known) in (
      added.0,
      added.1,
      λ t all. record {
        ways = picked_edges t S c.args.cells.now added.0 (omega arith) all added.2;
        most = subst (λ (xs : List ℕ). All (λ x. x ≤ c.most_of-self-inside.result) xs) behind c.most_of-self-inside.ensures.above;
        sums = subst (λ (xs : List ℕ). AreBothSums t xs c.fill_sums.new.sums.items) c.deref.ensures.value
            (c.in_ok-fill_sums.ensures t (subst (λ (xs : List ℕ). AreHopsFrom false t xs xs 0 1 c.args.cells.now) (sym c.deref.ensures.value) all));
      },
    )

pub fill_sums-requires-clause-sized : goal.fill_sums-requires-clause-sized
fill_sums-requires-clause-sized c = subst (λ (xs : List ℕ). length c.args.cells.now ≡ length xs * length xs) (sym c.deref.ensures.value) c.requires.sized

pub fill_sums-requires-clause-depot : goal.fill_sums-requires-clause-depot
fill_sums-requires-clause-depot c = subst (λ (xs : List ℕ). (rest : List ℕ) × (xs ≡ 0 ∷ rest)) (sym c.deref.ensures.value) c.requires.depot

pub fill_sums-requires-clause-long : goal.fill_sums-requires-clause-long
fill_sums-requires-clause-long c = subst (λ (xs : List ℕ). 2 ≤ length xs) (sym c.deref.ensures.value) c.requires.long

pub fill_sums-requires-clause-short : goal.fill_sums-requires-clause-short
fill_sums-requires-clause-short c = subst (λ (xs : List ℕ). length xs ≤ 1002) (sym c.deref.ensures.value) c.requires.short

pub add_edges-requires-clause-sized : goal.add_edges-requires-clause-sized
add_edges-requires-clause-sized c = c.requires.sized

pub add_edges-requires-clause-some : goal.add_edges-requires-clause-some
add_edges-requires-clause-some c = two_some _ c.requires.long

pub returns-in_err-fill_sums : goal.returns-in_err-fill_sums
returns-in_err-fill_sums c = let p = err_from_is_err_and c.from_residual.result c.from_residual.ensures.1 in rw p.1 tt

pub returns-in_err-add_edges : goal.returns-in_err-add_edges
returns-in_err-add_edges c = let p = err_from_is_err_and c.from_residual-in_err-add_edges.result c.from_residual-in_err-add_edges.ensures.1 in rw p.1 tt

pub slice_bounds-most_of-count : goal.slice_bounds-most_of-count
slice_bounds-most_of-count c = behind_fits c.args.stops.now.items c.in_ok-add_edges.ensures.0 c.deref-2.result.now _ _ (c.deref-2.ensures.value ∙ c.in_ok-add_edges.ensures.1) c.args.stops.now.ok.0 c.len-count.ensures
