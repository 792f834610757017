pub mod Below
pub mod WayParts
pub mod Reversals
pub mod Costs
pub mod Saved
pub mod Cells
pub mod Loops
