pub mod Extended
pub mod Joints
pub mod Misses
pub mod Outs
pub mod Places
pub mod Reach
