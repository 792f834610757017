pub mod Entries
pub mod Packed
pub mod Shown
pub mod Records
pub mod Kept
pub mod Pages
pub mod Journals
