use Rattle.std.proofs.Common.{◌-◌, ◌<◌, arith, length}
use Rattle.callback_store.specs.Registry.{tables}
use Rattle.dimension_core.specs.Cumuls.{table_of}
use Rattle.dimension_core.specs.Setting.{dimension_at}
use Rattle.dimension_core.specs.Setup.{setting}
use Rattle.denial_facts.proofs.Dims.{fits_by, late_by, load_by, miss_by, read_dim}
use Rattle.denial_facts.proofs.excess.excess_of.Goals as goal

pub returns-in_err-first_miss : goal.returns-in_err-first_miss
returns-in_err-first_miss g c =
    let s = setting c.args.setup.now in
    let k = c.args.dimension - 1 in
    let within : k < length s.dimensions = omega (arith, c.requires.first, c.requires.last) in
    rw c.from_residual.ensures
    (fits_by s _ _ _ k c.args.vehicle c.args.route.now c.registry-registry.ensures.value c.dimensions.ensures.value within c.index-dimensions-dimension.is c.in_err-first_miss.ensures)

pub returns-after-dimension-eq1 : goal.returns-after-dimension-eq1
returns-after-dimension-eq1 g c =
    let s = setting c.args.setup.now in
    let k = c.args.dimension - 1 in
    let within : k < length s.dimensions = omega (arith, c.requires.first, c.requires.last) in
    let found = miss_by s _ _ _ k c.args.vehicle c.args.route.now c.in_ok-first_miss.field-0 c.registry-registry.ensures.value c.dimensions.ensures.value within c.index-dimensions-dimension.is
    c.in_ok-first_miss.ensures in
    let miss = rw c.in-Stop.is at found in
    late_by (table_of s.tables (dimension_at s k)) (dimension_at s k) c.args.vehicle c.args.route.now c.in-Stop.stop c.stop_at-node.result c.in-Stop.least c.in-Stop.most
    miss c.stop_at-node.ensures.value

pub first_miss-requires-clause-served : goal.first_miss-requires-clause-served
first_miss-requires-clause-served g c =
    let s = setting c.args.setup.now in
    let k = c.args.dimension - 1 in
    let within : k < length s.dimensions = omega (arith, c.requires.first, c.requires.last) in
    (read_dim s (tables c.registry-registry.result.now) c.dimensions.result.now c.index-dimensions-dimension.result k c.args.vehicle c.args.route.now c.dimensions.ensures.sound c.dimensions.ensures.served
    c.registry-registry.ensures.value c.dimensions.ensures.value within c.index-dimensions-dimension.is c.requires.high c.requires.known).served

pub first_miss-requires-clause-known : goal.first_miss-requires-clause-known
first_miss-requires-clause-known g c =
    let s = setting c.args.setup.now in
    let k = c.args.dimension - 1 in
    let within : k < length s.dimensions = omega (arith, c.requires.first, c.requires.last) in
    (read_dim s (tables c.registry-registry.result.now) c.dimensions.result.now c.index-dimensions-dimension.result k c.args.vehicle c.args.route.now c.dimensions.ensures.sound c.dimensions.ensures.served
    c.registry-registry.ensures.value c.dimensions.ensures.value within c.index-dimensions-dimension.is c.requires.high c.requires.known).known

pub first_miss-requires-clause-high : goal.first_miss-requires-clause-high
first_miss-requires-clause-high g c =
    let s = setting c.args.setup.now in
    let k = c.args.dimension - 1 in
    let within : k < length s.dimensions = omega (arith, c.requires.first, c.requires.last) in
    (read_dim s (tables c.registry-registry.result.now) c.dimensions.result.now c.index-dimensions-dimension.result k c.args.vehicle c.args.route.now c.dimensions.ensures.sound c.dimensions.ensures.served
    c.registry-registry.ensures.value c.dimensions.ensures.value within c.index-dimensions-dimension.is c.requires.high c.requires.known).high

pub total_of_route-total-requires-clause-served : goal.total_of_route-total-requires-clause-served
total_of_route-total-requires-clause-served g c =
    let s = setting c.args.setup.now in
    let k = c.args.dimension - 1 in
    let within : k < length s.dimensions = omega (arith, c.requires.first, c.requires.last) in
    (read_dim s (tables c.registry-registry.result.now) c.dimensions.result.now c.index-dimensions-dimension.result k c.args.vehicle c.args.route.now c.dimensions.ensures.sound c.dimensions.ensures.served
    c.registry-registry.ensures.value c.dimensions.ensures.value within c.index-dimensions-dimension.is c.requires.high c.requires.known).served

pub total_of_route-total-requires-clause-known : goal.total_of_route-total-requires-clause-known
total_of_route-total-requires-clause-known g c =
    let s = setting c.args.setup.now in
    let k = c.args.dimension - 1 in
    let within : k < length s.dimensions = omega (arith, c.requires.first, c.requires.last) in
    (read_dim s (tables c.registry-registry.result.now) c.dimensions.result.now c.index-dimensions-dimension.result k c.args.vehicle c.args.route.now c.dimensions.ensures.sound c.dimensions.ensures.served
    c.registry-registry.ensures.value c.dimensions.ensures.value within c.index-dimensions-dimension.is c.requires.high c.requires.known).known

pub cap-capacity-requires-clause-high : goal.cap-capacity-requires-clause-high
cap-capacity-requires-clause-high g c =
    let s = setting c.args.setup.now in
    let k = c.args.dimension - 1 in
    let within : k < length s.dimensions = omega (arith, c.requires.first, c.requires.last) in
    (read_dim s (tables c.registry-registry.result.now) c.dimensions.result.now c.index-dimensions-dimension.result k c.args.vehicle c.args.route.now c.dimensions.ensures.sound c.dimensions.ensures.served
    c.registry-registry.ensures.value c.dimensions.ensures.value within c.index-dimensions-dimension.is c.requires.high c.requires.known).high

pub first_miss-requires-clause-low : goal.first_miss-requires-clause-low
first_miss-requires-clause-low g c = c.requires.low

pub returns-then-total-capacity : goal.returns-then-total-capacity
returns-then-total-capacity g c =
    let s = setting c.args.setup.now in
    let k = c.args.dimension - 1 in
    let within : k < length s.dimensions = omega (arith, c.requires.first, c.requires.last) in
    let load = load_by s (tables c.registry-registry.result.now) c.dimensions.result.now c.index-dimensions-dimension.result k c.args.vehicle c.args.route.now c.total_of_route-total.result c.cap-capacity.result
    c.registry-registry.ensures.value c.dimensions.ensures.value within c.index-dimensions-dimension.is (omega arith) c.total_of_route-total.ensures c.cap-capacity.ensures.value in
    (c.if-dimension-eq1.true, load.0, load.1, c.if-total-capacity.true)

pub returns-in-Start : goal.returns-in-Start
returns-in-Start g c =
    let s = setting c.args.setup.now in
    let k = c.args.dimension - 1 in
    let within : k < length s.dimensions = omega (arith, c.requires.first, c.requires.last) in
    let found = miss_by s (tables c.registry-registry.result.now) c.dimensions.result.now c.index-dimensions-dimension.result k c.args.vehicle c.args.route.now c.in_ok-first_miss.field-0
    c.registry-registry.ensures.value c.dimensions.ensures.value within c.index-dimensions-dimension.is c.in_ok-first_miss.ensures in
    rw c.in-Start.is at found
