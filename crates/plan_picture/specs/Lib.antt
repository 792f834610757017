pub mod Drawn
pub mod Marks
pub mod Scales
pub mod Texts
