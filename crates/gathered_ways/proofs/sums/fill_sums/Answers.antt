use Rattle.std.proofs.Common.{◌-◌, ◌∙◌, List, ℕ, length, subst, false, true}
use Rattle.std.proofs.lemmas.Result.{IfOk-weaker}
use Rattle.callback_store.specs.Tables.{Table}
use Rattle.gathered_ways.specs.Sums.{AddsSums, AreBothSums}
use Rattle.way_costs.specs.Ways.{AreHopsFrom}
use Rattle.gathered_ways.proofs.WaySums.{both_sums}
use Rattle.gathered_ways.proofs.sums.fill_sums.Goals as goal

pub returns : goal.returns
returns c =
    let S = c.args.stops.now in
    IfOk-weaker c.add_sums-2.result (λ _. (t : Table) → AreHopsFrom false t S S 0 1 c.args.cells.now → AddsSums true t S (length S - 1) c.add_sums.new.sums.items c.add_sums-2.new.sums.items)
    (λ _. (t : Table) → AreHopsFrom false t S S 0 1 c.args.cells.now → AreBothSums t S c.add_sums-2.new.sums.items)
    (λ _ added t all.
    both_sums t S c.add_sums.new.sums.items c.add_sums-2.new.sums.items
    (subst (λ (xs : List ℕ). AddsSums false t S (length S - 1) xs c.add_sums.new.sums.items) (c.reserve.ensures.items ∙ c.clear.ensures.items) (c.in_ok-add_sums.ensures t all)) (added t all))
    c.add_sums-2.ensures

pub add_sums-requires-clause-sized : goal.add_sums-requires-clause-sized
add_sums-requires-clause-sized c = c.requires.sized

pub add_sums-requires-clause-depot : goal.add_sums-requires-clause-depot
add_sums-requires-clause-depot c = c.requires.depot

pub add_sums-requires-clause-long : goal.add_sums-requires-clause-long
add_sums-requires-clause-long c = c.requires.long

pub add_sums-requires-clause-short : goal.add_sums-requires-clause-short
add_sums-requires-clause-short c = c.requires.short

pub add_sums-requires-2-clause-sized : goal.add_sums-requires-2-clause-sized
add_sums-requires-2-clause-sized c = c.requires.sized

pub add_sums-requires-2-clause-depot : goal.add_sums-requires-2-clause-depot
add_sums-requires-2-clause-depot c = c.requires.depot

pub add_sums-requires-2-clause-long : goal.add_sums-requires-2-clause-long
add_sums-requires-2-clause-long c = c.requires.long

pub add_sums-requires-2-clause-short : goal.add_sums-requires-2-clause-short
add_sums-requires-2-clause-short c = c.requires.short
