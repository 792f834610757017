pub mod Dims
pub mod Missing
pub mod Rest
pub mod Totals
