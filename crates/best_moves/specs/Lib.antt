pub mod Best
pub mod Searched
pub mod Search
pub mod Rows
pub mod Laws
