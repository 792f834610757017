pub use Rattle.board_lock.specs.DeskSteps
pub use Rattle.board_text.specs.BoardSteps
pub mod DeskRuns
