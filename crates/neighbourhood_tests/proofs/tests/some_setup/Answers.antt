use Rattle.std.proofs.Common.{ap}
use Rattle.dimension_core.specs.Setting.{Setting}
use Rattle.neighbourhood_tests.proofs.Sizes.{customers_fit, nodes_fit}
use Rattle.neighbourhood_tests.proofs.tests.some_setup.Goals as goal

pub overflow_mul-rooms : goal.overflow_mul-rooms
overflow_mul-rooms g c = customers_fit c.args.sample.rooms c.requires.1

pub some_dimensions-dimensions-requires : goal.some_dimensions-dimensions-requires
some_dimensions-dimensions-requires g c = c.requires

pub returns-clause-customers : goal.returns-clause-customers
returns-clause-customers g c = ap (λ (s : Setting). s.customers) (rw c.expect-setup.ensures at c.new.ensures.ok)

pub returns-clause-vehicles : goal.returns-clause-vehicles
returns-clause-vehicles g c = ap (λ (s : Setting). s.vehicles) (rw c.expect-setup.ensures at c.new.ensures.ok)
