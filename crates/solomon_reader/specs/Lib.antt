pub mod Cuts
pub mod Fields
pub mod Checks
pub mod Instances
pub mod Reading
pub mod Parts
