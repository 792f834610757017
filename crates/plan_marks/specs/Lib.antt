pub mod Customers
pub mod Entries
pub mod Ground
pub mod Joining
pub mod Names
