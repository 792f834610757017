pub mod Alone
pub mod Asks
pub mod Cache
pub mod Parts
pub mod Pending
pub mod Row
pub mod Track
