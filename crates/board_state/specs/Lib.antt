pub mod Held
pub mod Work
pub mod Verdicts
pub mod Deltas
pub mod Differences
pub mod Changes
pub mod Replies
