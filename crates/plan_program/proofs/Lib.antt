pub mod Holds
pub mod Sums
pub mod Reported
pub mod Unshown
