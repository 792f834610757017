use Rattle.callback_store.specs.Registry.{tables}
use Rattle.callback_store.specs.Tables.{pair_table, node_table, matrix_table, vector_table, stay_table}
use Rattle.route_parts.proofs.Carried.{home_as, looked_up}
use Rattle.route_parts.proofs.fits.fits_in.Goals as goal

pub returns-in-Pair : goal.returns-in-Pair
returns-in-Pair g c = home_as _ _ _ _ _ _ (looked_up (pair_table c.in-Pair.callback) (tables c.args.registry.now) c.args.dimension.now _ (rw c.in-Pair.is at c.callback.ensures.table) c.id.ensures) c.fits_by.ensures

pub returns-in-Node : goal.returns-in-Node
returns-in-Node g c = home_as _ _ _ _ _ _ (looked_up (node_table c.in-Node.callback) (tables c.args.registry.now) c.args.dimension.now _ (rw c.in-Node.is at c.callback.ensures.table) c.id.ensures) c.fits_by-in-Node.ensures

pub returns-in-Listed : goal.returns-in-Listed
returns-in-Listed g c = home_as _ _ _ _ _ _ (looked_up (matrix_table c.in-Listed.callback) (tables c.args.registry.now) c.args.dimension.now _ (rw c.in-Listed.is at c.callback.ensures.table) c.id.ensures) c.fits_by-in-Listed.ensures

pub returns-in-Values : goal.returns-in-Values
returns-in-Values g c = home_as _ _ _ _ _ _ (looked_up (vector_table c.in-Values.callback) (tables c.args.registry.now) c.args.dimension.now _ (rw c.in-Values.is at c.callback.ensures.table) c.id.ensures) c.fits_by-in-Values.ensures

pub returns-in-Stayed : goal.returns-in-Stayed
returns-in-Stayed g c = home_as _ _ _ _ _ _ (looked_up (stay_table c.in-Stayed.callback) (tables c.args.registry.now) c.args.dimension.now _ (rw c.in-Stayed.is at c.callback.ensures.table) c.id.ensures) c.fits_by-in-Stayed.ensures
