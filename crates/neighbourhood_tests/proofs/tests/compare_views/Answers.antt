use Rattle.neighbourhood_tests.proofs.Sizes.{customers_fit, some_customers}
use Rattle.neighbourhood_tests.proofs.tests.compare_views.Goals as goal

pub overflow_mul-customers : goal.overflow_mul-customers
overflow_mul-customers g c = customers_fit c.args.sample.rooms c.requires.rooms.1

pub compare_view-requires-clause-some : goal.compare_view-requires-clause-some
compare_view-requires-clause-some g c = some_customers c.args.sample.rooms c.requires.rooms.0 c.requires.rooms.1
