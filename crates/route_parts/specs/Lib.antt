pub mod View
pub mod Parts
pub mod Replaced
pub mod Lane
pub mod Kept
pub mod Ends
pub mod Given
