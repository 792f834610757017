pub mod Keeping
pub mod Listings
pub mod Marks
pub mod Stops
pub mod Taking
pub mod Asking
pub mod Applying
