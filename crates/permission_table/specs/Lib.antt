pub mod Bits
pub mod Compiled
pub mod Reaching
pub mod Rights
pub mod Seen
pub mod SessionsSeen
pub mod Tables
pub mod Unions
