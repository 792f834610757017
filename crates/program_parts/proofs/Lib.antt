pub mod Checked
pub mod Halves
pub mod Listed
pub mod Reported
pub mod Whole
