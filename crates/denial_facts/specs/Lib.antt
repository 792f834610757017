pub mod Excesses
pub mod Misses
pub mod Numbered
pub mod Totals
