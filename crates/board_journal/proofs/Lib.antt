pub mod Whole
pub mod Paging
pub mod Shared
