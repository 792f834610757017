pub mod Held
pub mod Alone
