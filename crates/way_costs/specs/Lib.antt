pub mod Ways
pub mod Known
pub mod Costs
pub mod Savings
pub mod Laws
