pub use Rattle.way_costs.specs.Costs
pub use Rattle.move_judge.specs.View
pub use Rattle.move_judge.specs.Near
pub use Rattle.move_judge.specs.Allowed
pub use Rattle.best_moves.specs.Best
pub mod Asked
